pub mod Filters
pub mod Outcomes
