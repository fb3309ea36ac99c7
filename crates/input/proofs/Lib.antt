pub mod BareLines
pub mod Steps
