pub mod Keys
pub mod Rows
pub mod Good
pub mod Names
pub mod Dots
pub mod Halves
