pub mod Callings
pub mod Goings
pub mod Hands
pub mod Objects
pub mod Keeping
