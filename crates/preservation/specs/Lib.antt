-- The statement of demand 3.
pub mod Volatile
pub mod Statement
