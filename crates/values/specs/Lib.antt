pub mod Bounds
pub mod ByValues
pub mod Examples
pub mod Exceptions
pub mod FalsePath
pub mod FanIn
pub mod Settling
