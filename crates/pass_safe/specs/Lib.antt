pub mod Commits
pub mod Grounds
pub mod Safes
pub mod Settled
pub mod Syncings
