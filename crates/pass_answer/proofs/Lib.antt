pub mod Between
pub mod Naming
pub mod ObjectSteps
pub mod Ready
pub mod Steps
pub mod Waiting
pub mod Wrapping
