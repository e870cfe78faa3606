mod Clearing
pub mod Given
mod Leaving
mod Naming
mod OpenFiles
mod Refusals
mod Removals
pub mod Showing
mod Unlinks
mod Volumes
