pub mod Pasts
pub mod Keepings
pub mod Walks
pub mod Laws
