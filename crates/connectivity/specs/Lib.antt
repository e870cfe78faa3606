pub mod Walk
pub mod Asked
