pub mod Shown
pub mod Parts
pub mod Sought
pub mod Walks
pub mod Listed
