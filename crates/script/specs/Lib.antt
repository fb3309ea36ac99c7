pub mod Chance
pub mod Choices
pub mod Entries
pub mod Told
pub mod Pushed
