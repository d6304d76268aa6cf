pub mod Frames
pub mod Records
pub mod LogImage
pub mod Log
pub mod Elsewhere
