pub mod Writes
pub mod Writers
pub mod Fields
pub mod Marking
pub mod Listed
pub mod OneRecord
pub mod Walks
