pub mod Paths
pub mod Around
pub mod Frames
pub mod Predicates
pub mod Plain
pub mod Arms
pub mod Parting
pub mod Inputs
