-- Laws of names and types on records.
pub mod TreeFields
pub mod TreeMarks
pub mod TreeNames
pub mod TreeScans
pub mod TreeTypes
pub mod NameRule
pub mod Singling
pub mod Telling
