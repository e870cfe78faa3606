pub mod Members
pub mod Ordered
