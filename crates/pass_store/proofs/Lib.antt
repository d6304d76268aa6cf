pub mod Causes
pub mod Closing
pub mod Filing
