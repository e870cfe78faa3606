pub mod Freeing
pub mod Finding
pub mod Leaving
pub mod Settling
pub mod Unmarking
