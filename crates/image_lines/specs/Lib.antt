pub mod Bits
pub mod Checks
pub mod Repaired
pub mod Status
