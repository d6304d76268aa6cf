pub mod Places
pub mod Rows
pub mod Sources
pub mod Dirtied
pub mod Tables
pub mod Laters
pub mod Lawful
