pub mod Cleaned
pub mod Blocks
