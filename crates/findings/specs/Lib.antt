pub mod Findings
pub mod Fitting
