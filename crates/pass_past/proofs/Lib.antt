pub mod Batches
pub mod Goings
mod AsOpened
mod Numbers
mod Growing
mod Consistent
mod AsTold
