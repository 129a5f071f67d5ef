pub mod InPlace
pub mod Lending
pub mod Locals
pub mod Meets
pub mod Names
pub mod OneOutcome
pub mod Returned
pub mod Thin
