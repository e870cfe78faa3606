pub mod Repaired
