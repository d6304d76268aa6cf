mod Stepping
mod Coming
mod Coursing
mod Finding
mod Parts
mod Blocks
