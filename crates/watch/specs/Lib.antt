pub mod Bits
pub mod Watched
