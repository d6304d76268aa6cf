pub mod Patterns
pub mod Marks
pub mod Grammar
pub mod Reading
pub mod Codes
pub mod Visits
pub mod Answers
