pub mod Linked
pub mod Placed
pub mod LeftLemmas
pub mod Among
mod Locals
pub mod Walks
mod CallTurns
mod Exits
pub mod Forks
pub mod Handing
pub mod LeftBounds
mod LeftTables
pub mod Meetings
pub mod LinesAt
mod OtherCalls
pub mod MetWalkers
mod Making
pub mod Planned
mod Turning
