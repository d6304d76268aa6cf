pub mod States
pub mod OneObject
