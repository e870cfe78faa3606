pub mod Drafts
pub mod Holdings
pub mod Planned
pub mod Snapshots
pub mod Volume
