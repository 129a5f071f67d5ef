pub mod Answers
pub mod FirstTests
pub mod Fits
pub mod Rows
pub mod Tests
