pub mod Upgraded
pub mod Steps
