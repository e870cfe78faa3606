pub mod FreeLemmas
pub mod LettingGo
pub mod Placing
pub mod Steps
pub mod ShownLemmas
