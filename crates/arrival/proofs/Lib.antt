pub mod ArrivalLaws
pub mod Turns
pub mod WindowLemma
