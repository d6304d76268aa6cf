pub mod Entering
pub mod Flows
pub mod Tags
