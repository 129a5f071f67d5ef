pub mod Made
pub mod OneOutcome
