pub mod Asked
pub mod Bench
pub mod Pass
