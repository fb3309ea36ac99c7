pub mod NumberLaws
pub mod PrefixLaws
pub mod WordLaws
