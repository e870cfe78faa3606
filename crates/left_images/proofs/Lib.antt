pub mod ChoiceLemmas
pub mod JudgedLemmas
pub mod EachLemmas
