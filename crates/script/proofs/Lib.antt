pub mod Choosing
pub mod Last
pub mod Telling
