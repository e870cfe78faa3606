mod Upkeep
mod Syncing
mod Cycle
mod Joining
mod Seen
mod Ended
mod Planned
mod Going
pub mod MayMend
