-- Laws of types on records.
pub mod ByPlacing
pub mod Demanding
pub mod Ruling
pub mod Scanning
pub mod Turning
