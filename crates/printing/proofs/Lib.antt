pub mod Fields
pub mod Holds
pub mod Room
pub mod Shapes
pub mod Records
pub mod Answers
