mod CauseLemmas
mod DoneLemmas
mod GroundLemmas
mod LateLemmas
mod MoveLemmas
mod MovedLemmas
mod PlaceLemmas
mod PlannedLemmas
