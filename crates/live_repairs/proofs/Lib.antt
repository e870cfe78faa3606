pub mod Carrying
pub mod Linking
pub mod Places
