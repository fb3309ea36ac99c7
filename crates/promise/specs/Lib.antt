pub mod Machine
pub mod Promise
pub mod Run
