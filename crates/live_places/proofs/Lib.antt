mod ChoiceLemmas
pub mod FreeCounts
pub mod NextBlocks
pub mod RoomLemmas
pub mod ShownLemmas
