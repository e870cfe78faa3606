pub mod Queues
pub mod Issued
mod Puts
mod Flushed
mod Nexts
mod NewBlocks
pub mod Swept
mod Synced
mod GivenBytes
mod Framed
pub mod Frames
pub mod Mediums
mod RecordTails
mod FreeBytes
