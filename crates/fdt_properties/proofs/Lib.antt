pub mod Filling
pub mod Places
pub mod Property
pub mod Steps
