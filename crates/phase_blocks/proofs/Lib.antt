pub mod Claims
pub mod ClaimOrder
pub mod FindingSets
pub mod Gathering
pub mod Scanning
pub mod FillLemmas
pub mod OwnerLemmas
