pub mod Leaky
pub mod Known
