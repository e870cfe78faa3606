pub mod Bits
pub mod Ladders
