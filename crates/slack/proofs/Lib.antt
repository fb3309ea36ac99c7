pub mod MarginLaws
pub mod PeriodLaws
pub mod Times
