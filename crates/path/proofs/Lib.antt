pub mod Sums
pub mod Telling
pub mod Writing
