-- Which images are accepted: tests 6 and 7 as marks of the records of a plan, the whole check, and what it promises.
pub mod Marks
pub mod Names
pub mod NamesRule
pub mod Types
pub mod Check
pub mod Accepted
