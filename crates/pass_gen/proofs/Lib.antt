mod Follows
mod Mapped
pub mod Numbers
