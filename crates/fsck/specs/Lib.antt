pub mod Checked
pub mod Parts
