pub mod Calls
pub mod Facts
pub mod Openings
pub mod Translations
