pub mod Versioning
pub mod Flowing
pub mod Seeing
