pub mod AgainLaws
pub mod CutLaws
pub mod MeaningLaws
pub mod TextLaws
pub mod WholeLaws
