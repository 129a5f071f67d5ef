pub mod Capped
pub mod Reached
pub mod Walked
