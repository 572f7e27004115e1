pub mod Sets
pub mod Masks
pub mod Fields
pub mod Inputs
pub mod Referring
