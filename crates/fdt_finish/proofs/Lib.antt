pub mod Boot
pub mod Finishing
pub mod Shown
