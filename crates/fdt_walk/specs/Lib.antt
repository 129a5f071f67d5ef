pub mod Depth
pub mod Reached
pub mod ReaderWalk
pub mod Refusals
pub mod Token
