mod Stories
mod Falling
mod Flowing
mod Keeping
mod Standing
mod Telling
pub mod Recording
mod Edging
mod Joining
pub mod Logging
mod Opening
mod Proved
mod Repeating
mod Wording
pub mod Accepting
mod Naming
mod Contents
pub mod Prolonging
mod Prefixing
mod Listing
mod Holding
pub mod Adding
pub mod Ranking
pub mod Noding
mod Closing
mod Growing
