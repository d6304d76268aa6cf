pub mod Scan
pub mod Crash
pub mod Split
pub mod Reading
pub mod Pieces
pub mod Append
pub mod Opened
pub mod Batches
