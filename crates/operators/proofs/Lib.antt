pub mod Evaluate
pub mod Wide
