pub mod Told
pub mod Entries
pub mod Walks
