pub mod Heaps
pub mod Jobs
pub mod Passes
pub mod Turns
