mod CutLemmas
mod PartLemmas
mod PutLemmas
mod PlaceLemmas
