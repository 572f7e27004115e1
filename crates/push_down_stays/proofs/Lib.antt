pub mod KindOf
pub mod Dispatches
pub mod Stayings
pub mod Differing
pub mod Nodes
