pub mod Views
pub mod Facts
pub mod Labels
pub mod Dots
pub mod Provs
pub mod Csvs
pub mod Texts
pub mod Laws
