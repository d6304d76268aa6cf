pub mod Answers
pub mod Questions
pub mod Searches
pub mod Texts
