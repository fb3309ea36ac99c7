pub mod Cone
pub mod Register
pub mod Alone
