pub mod Standing
pub mod Answer
