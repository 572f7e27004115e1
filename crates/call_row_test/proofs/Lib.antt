pub mod FieldTypes
pub mod Quiet
pub mod Locating
pub mod RowTesting
