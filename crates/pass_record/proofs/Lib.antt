pub mod Parts
pub mod Steps
pub mod RecordFields
pub mod Records
pub mod Spellings
