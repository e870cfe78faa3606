pub mod SetLemmas
pub mod WalkLemmas
pub mod ViewLemmas
pub mod OneUse
