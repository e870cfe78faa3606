pub mod Alike
mod AnswerLemmas
pub mod AppliesLemmas
pub mod Blaming
mod CallLemmas
mod Going
mod Installs
pub mod Joining
mod PieceLemmas
mod ReadLemmas
pub mod Refusals
mod Room
mod Splitting
mod Standing
mod UserReplies
mod Writing
mod Written
mod HeldImages
mod SyncedLemmas
