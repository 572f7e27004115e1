pub mod Deep
pub mod Formed
pub mod Linking
pub mod Misformed
pub mod Patterns
pub mod Sorts
pub mod Sound
