pub mod ConeLaws
pub mod RegisterLaws
pub mod ChangeLaws
pub mod Marking
pub mod TimeLaws
pub mod Walking
pub mod SumLaws
pub mod NoMarks
