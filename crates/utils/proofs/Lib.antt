-- Laws of sets, schemas and clauses.
pub mod Members
pub mod Marking
pub mod Named
pub mod Making
pub mod Shapes
pub mod Appending
pub mod Answering
