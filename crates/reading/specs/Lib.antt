pub mod Replies
pub mod Bytes
pub mod Trees
