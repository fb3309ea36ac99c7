pub mod Ratio
pub mod Words
