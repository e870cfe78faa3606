mod Views
mod Since
mod Grows
mod Naming
mod Data
pub mod Commands
