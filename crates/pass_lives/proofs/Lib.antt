pub mod ExitSteps
pub mod ForkBegins
pub mod ForkSteps
pub mod Newborns
pub mod PipeLists
pub mod Waits
