pub mod Front
pub mod Host
pub mod HostFault
