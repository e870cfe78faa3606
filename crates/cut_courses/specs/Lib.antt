pub mod Durably
