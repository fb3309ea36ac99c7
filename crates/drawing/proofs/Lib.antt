pub mod Cycling
pub mod IdealLaws
pub mod Settling
