mod ReadLemmas
mod FrameLemmas
mod AheadLemmas
mod LookLemmas
mod PlaceLemmas
