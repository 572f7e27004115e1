pub mod ByPlace
pub mod Demands
pub mod Standing
