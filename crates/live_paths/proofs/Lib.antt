mod BlockLemmas
mod Firsts
mod ListedLemmas
mod LookupLemmas
mod PartLemmas
mod ScanLemmas
mod SlotTests
pub mod ShownLemmas
pub mod WalkLemmas
