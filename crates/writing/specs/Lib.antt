pub mod Again
pub mod Written
