pub mod Writes
pub mod Marks
pub mod Moves
pub mod Writers
