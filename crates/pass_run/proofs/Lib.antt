pub mod Ruled
mod Numbered
mod Needed
mod Refusing
mod Recorded
mod Telling
mod Overs
pub mod Moved
mod Crossing
mod Fitting
mod Reached
mod Following
mod Reopening
pub mod Reported
