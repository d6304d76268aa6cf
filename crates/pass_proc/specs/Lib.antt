pub mod Acts
pub mod Births
pub mod CallEnds
pub mod Ends
pub mod Execs
pub mod Procs
pub mod UnderWay
pub mod Views
