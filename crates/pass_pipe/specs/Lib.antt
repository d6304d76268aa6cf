pub mod Ends
pub mod OnePipe
pub mod Transfers
pub mod Desks
