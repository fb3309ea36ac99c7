pub mod Gate
pub mod Times
pub mod Promise
pub mod Widest
pub mod Paths
pub mod Within
pub mod Cycles
pub mod Weaker
