pub mod Boot
pub mod Finish
pub mod Shown
