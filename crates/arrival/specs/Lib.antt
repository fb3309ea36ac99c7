pub mod Arrival
pub mod Lent
pub mod Window
