pub mod Nexts
pub mod Coming
