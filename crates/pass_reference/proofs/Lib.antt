pub mod States
pub mod Allowing
pub mod Caching
pub mod Walking
