pub mod Grammar
pub mod Index
pub mod Names
