pub mod Cleared
pub mod Places
pub mod Chains
pub mod Left
pub mod Stages
pub mod Ends
pub mod Cuts
