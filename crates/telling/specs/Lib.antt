pub mod Said
pub mod Parts
pub mod Knows
