pub mod Marked
pub mod Finishes
pub mod Falling
pub mod Again
pub mod Outcoming
pub mod Images
pub mod Fronts
pub mod Passed
