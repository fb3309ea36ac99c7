pub mod Line
pub mod Said
