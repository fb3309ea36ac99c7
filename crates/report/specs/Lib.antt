pub mod Again
pub mod Lent
pub mod Meaning
pub mod OfCircuit
pub mod Read
pub mod Reported
