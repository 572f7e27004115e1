pub mod Appending
pub mod Decimals
pub mod Records
