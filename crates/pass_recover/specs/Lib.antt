pub mod Fills
pub mod Starts
pub mod Faults
pub mod Syncs
pub mod Later
