pub mod Adding
pub mod Filling
pub mod Gates
pub mod MeaningLaws
pub mod Telling
