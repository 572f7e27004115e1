pub mod Entries
pub mod Maps
pub mod Written
pub mod Pushing
pub mod Renaming
pub mod Focused
