pub mod Callers
pub mod Callings
pub mod Entering
pub mod Goings
pub mod Places
pub mod Slips
