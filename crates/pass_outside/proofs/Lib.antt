pub mod Dues
pub mod Flat
pub mod Kept
pub mod Steps
