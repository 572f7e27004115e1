pub mod Filling
pub mod Depths
pub mod Spliced
pub mod Whole
pub mod Noting
pub mod Splice
pub mod Fitting
pub mod Roots
