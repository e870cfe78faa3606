pub mod Positions
mod Sums
pub mod Alike
pub mod Carried
pub mod Same
