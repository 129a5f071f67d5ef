pub mod Examples
pub mod Numbers
pub mod Pass
pub mod Reader
