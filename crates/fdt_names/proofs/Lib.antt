pub mod Grammar
pub mod Names
pub mod Tests
