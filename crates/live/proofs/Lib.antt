pub mod Owning
pub mod Durably
mod DurablePlans
mod Between
mod ByteLemmas
mod Carrying
mod Commands
mod Flushes
mod LettingGo
mod Looks
mod Mountable
mod Mounting
mod Places
mod Quietly
mod RunLemmas
mod Views
mod Whole
mod SnapshotLemmas
