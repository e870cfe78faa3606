pub mod CutLemmas
pub mod Places
pub mod Frames
pub mod Bits
pub mod Data
pub mod Records
pub mod Claims
pub mod CutUses
pub mod RecordSteps
pub mod RecordKinds
pub mod Growth
pub mod Tables
mod SlotSteps
pub mod SlotKinds
mod NewNames
pub mod Prune
pub mod Graft
pub mod Flushes
mod Creation
pub mod HistoryLemmas
mod ClosedSetLemmas
pub mod Removal
