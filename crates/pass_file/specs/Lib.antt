pub mod BlockSets
pub mod Desks
pub mod FileViews
pub mod Touches
