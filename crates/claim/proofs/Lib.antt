pub mod ClaimLaws
pub mod CountLaws
pub mod NumberLaws
