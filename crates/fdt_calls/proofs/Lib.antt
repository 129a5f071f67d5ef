pub mod Called
pub mod Desks
pub mod Effects
pub mod Made
pub mod OneOutcome
pub mod Refused
pub mod Table
