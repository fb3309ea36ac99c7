pub mod Failing
pub mod Trying
