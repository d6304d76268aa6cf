pub mod Sorting
mod Edging
pub mod Texting
pub mod Indexing
pub mod Loading
