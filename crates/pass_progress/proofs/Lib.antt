mod Answering
mod Bearing
mod Births
mod Exits
mod Positions
mod Rests
mod Since
mod Syncing
