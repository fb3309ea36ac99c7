pub mod Bounds
pub mod Going
pub mod Keeping
pub mod Lent
