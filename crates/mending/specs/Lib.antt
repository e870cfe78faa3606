pub mod Repairs
pub mod Went
