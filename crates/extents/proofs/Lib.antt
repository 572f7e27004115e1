pub mod Extents
pub mod Deepened
pub mod Sized
