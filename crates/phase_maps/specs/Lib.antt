pub mod NumberFindings
pub mod Walks
