pub mod Runs
pub mod Paths
pub mod Kept
