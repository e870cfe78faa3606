mod LawLemmas
mod ListingLemmas
mod PieceLemmas
mod SameLemmas
mod TurnLemmas
