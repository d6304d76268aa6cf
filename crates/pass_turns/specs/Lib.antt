pub mod Turners
pub mod Tasks
pub mod Meetings
pub mod Performed
