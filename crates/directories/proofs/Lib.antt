mod SlotLemmas
mod TableLemmas
mod WholeLemmas
pub mod PieceLemmas
pub mod PieceTables
