pub mod Reading
pub mod Shorter
