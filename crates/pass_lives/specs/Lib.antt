pub mod Exits
pub mod Forks
pub mod Pipes
pub mod Waits
