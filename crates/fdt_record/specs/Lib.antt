pub mod Answers
pub mod Fields
pub mod Limits
pub mod Misfits
pub mod Rows
pub mod Tests
