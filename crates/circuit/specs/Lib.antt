pub mod Filled
pub mod Gate
pub mod Circuit
pub mod Lent
pub mod Whole
pub mod Refused
pub mod Checked
