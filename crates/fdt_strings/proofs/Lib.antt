pub mod Entries
pub mod FirstEntry
pub mod Places
