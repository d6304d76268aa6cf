pub mod Streams
pub mod Logs
pub mod Laws
pub mod Standing
pub mod Sending
