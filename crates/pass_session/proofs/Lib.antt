mod Raised
mod RaisedSizes
mod Parted
pub mod Sought
mod Laying
mod Bared
mod Judging
mod Told
