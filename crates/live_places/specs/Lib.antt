pub mod Chosen
pub mod Rooms
pub mod Tables
pub mod Taken
