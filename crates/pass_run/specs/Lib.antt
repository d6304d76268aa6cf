pub mod Ends
pub mod Stored
pub mod Orders
pub mod Closing
pub mod OpenedRuns
pub mod Successive
