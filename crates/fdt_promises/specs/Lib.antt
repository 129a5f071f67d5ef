pub mod ByNumber
pub mod Cases20
pub mod Effects
pub mod Examples
pub mod OpenNode
pub mod ReadBack
pub mod Run
pub mod Starred
