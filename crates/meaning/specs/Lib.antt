pub mod Meaning
pub mod Tables
