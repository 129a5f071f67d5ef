pub mod Clues
pub mod FirstEntry
