pub mod Counting
pub mod Seeking
pub mod Typing
pub mod Scoping
