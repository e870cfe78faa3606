pub mod FreshCases
pub mod FreshGaps
pub mod TablePlaces
pub mod PutLemmas
pub mod FreshBlocks
pub mod RootBlocks
pub mod FreshImage
