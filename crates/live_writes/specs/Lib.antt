pub mod Aimed
pub mod Written
