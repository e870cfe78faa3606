pub mod Attributing
