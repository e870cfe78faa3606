pub mod Causes
pub mod Copied
