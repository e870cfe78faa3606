mod CountLemmas
mod LinkLemmas
mod PartLemmas
mod SetLemmas
