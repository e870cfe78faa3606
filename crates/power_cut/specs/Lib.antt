pub mod Epochs
pub mod Volumes
pub mod Sweeps
pub mod Taking
pub mod Courses
pub mod Syncs
pub mod Standing
pub mod Going
