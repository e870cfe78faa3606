pub mod Queued
pub mod OnMedium
pub mod Syncing
pub mod Writing
