pub mod Ascending
pub mod Entered
pub mod FileNumbers
pub mod NameMaps
pub mod Numbers
pub mod OpenNames
pub mod Starting
pub mod TableLemmas
