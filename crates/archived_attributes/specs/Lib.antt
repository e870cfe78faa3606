pub mod Links
pub mod Telling
