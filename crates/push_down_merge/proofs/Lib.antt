pub mod Within
pub mod Naming
pub mod Scoped
pub mod Root
pub mod Shorter
pub mod Merges
pub mod Tested
pub mod OneMerge
