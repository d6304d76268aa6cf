pub mod Judgements
pub mod Openings
pub mod Layouts
pub mod Sessions
pub mod Lawful
