pub mod Packing
pub mod Ringing
