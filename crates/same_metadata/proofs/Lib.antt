pub mod RecordLemmas
pub mod BlockLemmas
pub mod WalkLemmas
