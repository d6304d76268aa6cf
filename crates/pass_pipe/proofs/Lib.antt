pub mod OnePipe
pub mod Piping
