pub mod Attributed
