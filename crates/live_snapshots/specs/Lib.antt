pub mod Orphans
pub mod Unmarked
