pub mod Blocks
pub mod Entries
pub mod Links
pub mod Removed
pub mod Shortened
