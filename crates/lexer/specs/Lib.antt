pub mod Text
pub mod Tokens
pub mod Runs
pub mod Scanned
pub mod Dots
pub mod Letters
pub mod Original
pub mod Known
