pub mod Orders
pub mod Lookups
pub mod Edges
pub mod Texts
pub mod Taken
pub mod Index
