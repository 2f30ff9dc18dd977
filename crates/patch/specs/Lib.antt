pub mod Patched
pub mod Plans
