pub mod Keeping
pub mod Comparing
pub mod BaseCase
pub mod Cycles
pub mod Capturing
pub mod Going
pub mod Doubling
pub mod FirstCycle
