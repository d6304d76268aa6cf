pub mod Answers
pub mod Endings
pub mod Lives
pub mod Ready
pub mod Syncs
