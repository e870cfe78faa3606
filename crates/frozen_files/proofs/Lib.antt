mod Metadata
mod Good
mod Placed
mod Enters
mod Holds
mod Naming
mod Data
mod Frozen
pub mod Laws
