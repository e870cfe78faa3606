mod SessionLemmas
pub mod TendedLemmas
mod ViewedLemmas
