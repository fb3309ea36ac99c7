pub mod Lent
pub mod Stands
