pub mod Standing
pub mod Listed
pub mod Kept
pub mod Operands
pub mod FunctionsIn
pub mod Equals
pub mod Onto
pub mod LeftDeeps
