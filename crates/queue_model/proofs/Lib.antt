pub mod Lists
pub mod HistoryLemmas
pub mod FlushLemmas
pub mod SyncLemmas
pub mod EntryLemmas
pub mod QueueLemmas
pub mod Represented
pub mod NewClaims
mod HeldCuts
pub mod FileLemmas
mod OwnLemmas
pub mod CourseLemmas
pub mod HoldLemmas
pub mod BlockLemmas
pub mod NamingLemmas
mod CourseHistories
pub mod QuietUpdates
mod MapWrites
pub mod Listed
pub mod TakenLemmas
pub mod Standing
