pub mod Later
pub mod Accepting
