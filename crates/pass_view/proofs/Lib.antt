mod Ascii
mod Spelling
mod Telling
mod Tagging
mod Ends
mod Ordering
mod Showing
mod Finding
pub mod Members
pub mod Adding
mod Lines
mod Drawing
pub mod Lacking
mod Rows
mod Readings
mod Keys
