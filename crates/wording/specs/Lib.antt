pub mod Line
pub mod Words
