pub mod Inputs
pub mod Tars
pub mod Plans
