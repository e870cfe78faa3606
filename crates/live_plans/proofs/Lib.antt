pub mod DraftLemmas
pub mod FoundLemmas
pub mod BlockLemmas
pub mod Fitting
pub mod LinkLemmas
pub mod GrowLemmas
pub mod EnterLemmas
pub mod NewBlocks
