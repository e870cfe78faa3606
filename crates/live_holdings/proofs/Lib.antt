pub mod Opened
pub mod Repairing
pub mod Tables
pub mod Walks
