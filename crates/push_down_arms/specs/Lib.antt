pub mod Over
pub mod Renaming
pub mod Through
pub mod Scans
pub mod Divided
pub mod Movable
