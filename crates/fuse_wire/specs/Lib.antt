pub mod Fields
pub mod Forgets
pub mod Opcodes
pub mod Refusals
pub mod Requests
pub mod Replies
pub mod ReadBack
