pub mod Choices
pub mod Prunings
pub mod Openings
pub mod Results
pub mod Keepings
pub mod Laws
pub mod Tables
