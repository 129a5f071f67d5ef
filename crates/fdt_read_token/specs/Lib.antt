pub mod Inside
pub mod Trimmed
