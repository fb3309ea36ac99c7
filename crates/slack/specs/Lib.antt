pub mod Margin
pub mod Period
pub mod Required
pub mod Word
