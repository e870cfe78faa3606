pub mod Counts
pub mod Links
pub mod Parts
