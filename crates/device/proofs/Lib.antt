pub mod WriteLemmas
pub mod MemoryLemmas
pub mod FormatLemmas
pub mod ReadingLemmas
pub mod ByteLemmas
pub mod MediaLemmas
