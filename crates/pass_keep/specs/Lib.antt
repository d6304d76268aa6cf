pub mod Kept
pub mod Dirty
pub mod Parts
pub mod Keepers
pub mod Longer
