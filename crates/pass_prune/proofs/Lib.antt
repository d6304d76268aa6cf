pub mod Contents
pub mod Alike
pub mod Going
pub mod Nodes
pub mod Laying
pub mod Ends
