pub mod Alone
pub mod Handles
pub mod Left
pub mod Numbers
