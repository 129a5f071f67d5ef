pub mod Placeholder
pub mod Property
