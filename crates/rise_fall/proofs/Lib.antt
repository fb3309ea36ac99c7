pub mod Seeing
pub mod Merging
pub mod Keeping
pub mod Times
pub mod Comparing
pub mod Going
pub mod Buffers
pub mod ShortPulse
