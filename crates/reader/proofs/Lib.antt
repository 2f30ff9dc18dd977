pub mod Lending
pub mod FullReads
pub mod OneReads
