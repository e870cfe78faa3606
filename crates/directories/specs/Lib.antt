pub mod Pieces
pub mod Named
