pub mod Drawing
pub mod Lent
