pub mod Gathered
pub mod Moved
pub mod Refused
pub mod Renamed
