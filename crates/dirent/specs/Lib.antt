pub mod Seen
pub mod DirectoryBlock
