pub mod Positions
pub mod Sums
pub mod Parts
pub mod Begun
pub mod StepKinds
pub mod NextCalls
pub mod Entries
pub mod Births
pub mod OneMore
pub mod Lives
pub mod Rooms
pub mod SoFar
pub mod Started
pub mod Staying
pub mod Closed
pub mod Reserving
pub mod Replaying
pub mod Stuck
pub mod RunSteps
pub mod DueCalls
pub mod TextPlaces
mod Standstill
pub mod Agreeing
pub mod Prefixes
pub mod InLine
mod Trying
