pub mod Fields
pub mod Arms
pub mod Walk
