pub mod Fields
pub mod Lines
