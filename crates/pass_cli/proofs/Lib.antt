mod Completed
pub mod Judging
mod DrawnRuns
