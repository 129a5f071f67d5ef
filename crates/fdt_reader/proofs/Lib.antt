pub mod Examples
pub mod Exactly
pub mod Header
pub mod Outcomes
pub mod Passes
pub mod Seen
pub mod Whole
