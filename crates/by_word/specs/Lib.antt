pub mod Fingerprints
pub mod Equality
