pub mod Free
pub mod Shown
pub mod Staged
