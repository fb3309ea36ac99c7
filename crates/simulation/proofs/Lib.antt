pub mod Running
pub mod Shown
