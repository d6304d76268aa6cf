pub mod Meetings
pub mod Settlings
pub mod Stops
