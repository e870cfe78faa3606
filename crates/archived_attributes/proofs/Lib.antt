pub mod LinkLemmas
pub mod TellingLemmas
