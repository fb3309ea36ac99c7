pub mod Beginning
pub mod Following
pub mod Keeping
pub mod Whole
