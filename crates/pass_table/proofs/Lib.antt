pub mod Flats
pub mod Seen
pub mod Parts
pub mod Growing
