mod Shown
mod Steps
mod Falling
mod Flagged
pub mod Blocks
mod Counting
mod Taken
mod Released
mod Struck
mod MoreCounts
mod Raising
mod GivenBack
pub mod LooseCuts
pub mod Left
mod TakenAll
mod Given
mod Settled
mod Asked
mod Rooms
mod Waits
mod Additions
mod Contained
pub mod RoomLemmas
mod Moved
