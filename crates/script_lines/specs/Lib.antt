pub mod Carried
pub mod Cuts
