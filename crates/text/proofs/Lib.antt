pub mod MeaningLaws
pub mod PlaceLaws
pub mod ReaderLaws
pub mod RefusalLaws
pub mod TrimLaws
