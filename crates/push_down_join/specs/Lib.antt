pub mod Partners
pub mod Sides
pub mod Scopes
pub mod Parts
pub mod JoinPlans
pub mod Clauses
