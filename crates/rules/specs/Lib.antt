pub mod Broken
pub mod Loading
