pub mod Statuses
pub mod Stores
pub mod Reading
pub mod Writing
