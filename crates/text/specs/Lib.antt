pub mod Meaning
pub mod Read
pub mod Reader
