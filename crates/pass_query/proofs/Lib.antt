pub mod Elements
mod Looking
mod Searching
mod Bounding
pub mod Edges
mod Counting
mod Kin
mod Holders
mod Jsons
mod Routing
