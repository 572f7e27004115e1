pub mod Answers
pub mod Example
pub mod Long
