mod Arguments
mod Charged
mod Digested
pub mod Images
pub mod Lengths
pub mod Numbers
mod Ranges
mod RunCalls
mod Taken
