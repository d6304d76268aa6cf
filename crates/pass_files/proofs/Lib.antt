mod Called
mod Folding
mod Rows
mod Members
mod Unused
mod Ways
mod Passes
mod Choosing
