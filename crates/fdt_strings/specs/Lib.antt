pub mod Entries
pub mod Interned
