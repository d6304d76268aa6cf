pub mod JobLists
pub mod Perms
pub mod Plays
pub mod Underway
pub mod Results
