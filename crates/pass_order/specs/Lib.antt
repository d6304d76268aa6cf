pub mod Ranks
pub mod Queues
pub mod Replayed
