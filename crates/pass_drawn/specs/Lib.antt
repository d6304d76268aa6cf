pub mod Runs
pub mod Texts
pub mod Tallies
pub mod Lawful
