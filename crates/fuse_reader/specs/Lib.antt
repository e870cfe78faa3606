pub mod Desks
pub mod Listings
pub mod Pieces
pub mod Said
pub mod Shown
pub mod Turns
