pub mod Lines
pub mod Forms
pub mod Data
pub mod Run
pub mod Calls
