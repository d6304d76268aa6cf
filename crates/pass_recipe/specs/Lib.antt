pub mod Orders
pub mod Programs
pub mod Queues
pub mod Texts
