pub mod Records
pub mod Lists
pub mod Agreeing
pub mod Printing
