pub mod LeavesOpen
pub mod Order
pub mod Bare
pub mod Moving
pub mod Placing
pub mod Rereading
pub mod Planning
