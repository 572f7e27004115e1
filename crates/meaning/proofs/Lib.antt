pub mod Logic
pub mod Names
pub mod Sentences
pub mod InLists
pub mod Tables
