pub mod Truths
pub mod Operators
