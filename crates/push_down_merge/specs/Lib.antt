pub mod Merging
pub mod Found
pub mod Lent
