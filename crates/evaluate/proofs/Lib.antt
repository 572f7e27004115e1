pub mod TruthLaws
pub mod Cases
pub mod Seeing
pub mod Rows
pub mod Evaluating
pub mod Folding
