pub mod Stops
pub mod Changes
pub mod Asking
pub mod Refused
pub mod GivenBack
