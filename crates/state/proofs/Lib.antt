pub mod Chain
pub mod Flat
pub mod Stream
pub mod Steps
pub mod Bytes
pub mod ByNumber
