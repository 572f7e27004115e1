pub mod Cost
pub mod Seen
pub mod Classes
