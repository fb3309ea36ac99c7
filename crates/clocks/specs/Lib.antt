pub mod Benches
pub mod Ticking
