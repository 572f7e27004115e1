pub mod Counts
pub mod Patterned
pub mod Rooting
pub mod Roots
pub mod Rows
pub mod Sound
pub mod Stages
