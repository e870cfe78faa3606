pub mod Kept
pub mod Loading
pub mod Shared
pub mod Kinds
pub mod Installed
