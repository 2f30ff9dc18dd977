pub mod Holds
pub mod Lines
pub mod Shapes
