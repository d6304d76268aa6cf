pub mod Beginnings
pub mod Grants
pub mod Renamings
pub mod Writes
