pub mod Replaced
pub mod Maps
pub mod Pushed
pub mod Plans
pub mod Renames
