pub mod Entered
pub mod Found
pub mod Grown
pub mod Linked
