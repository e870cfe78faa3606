pub mod Choices
pub mod Judged
pub mod Report
