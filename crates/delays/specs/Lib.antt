pub mod Row
pub mod Meaning
pub mod ByLines
