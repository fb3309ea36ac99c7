pub mod Bounding
pub mod ClosedPart
pub mod Examples
pub mod Exceptions
pub mod FalsePaths
pub mod More
pub mod Promising
pub mod SettlingLaws
