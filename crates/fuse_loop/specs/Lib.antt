pub mod Sessions
pub mod Tended
pub mod Viewed
