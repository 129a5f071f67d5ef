pub mod Entry
pub mod Overlap
