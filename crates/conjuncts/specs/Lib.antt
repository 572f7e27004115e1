pub mod Standing
pub mod Items
pub mod Labels
pub mod Operands
pub mod Functions
pub mod Equality
pub mod Onto
pub mod Says
