pub mod Moments
pub mod Starts
pub mod Runs
pub mod Seen
