pub mod Found
pub mod Readings
pub mod Counted
