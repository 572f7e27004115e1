-- Plans. Lists first; then plans as data types and what their fields are; then records: kinds, words, form; then a plan as a tree and back.
pub mod Lists
pub mod Syntax
pub mod Schema
pub mod Types
pub mod Columns
pub mod Kinds
pub mod Words
pub mod Form
pub mod Trees
pub mod Read
pub mod Measure
pub mod Integers
pub mod Values
pub mod WordValues
pub mod FieldSources
pub mod Inputs
