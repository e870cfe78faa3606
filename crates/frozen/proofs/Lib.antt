pub mod LoadLemmas
pub mod FrozenLemmas
pub mod PointerLemmas
pub mod ClaimLemmas
pub mod KeepingLemmas
pub mod SlotLemmas
pub mod CopyLemmas
pub mod LettingGo
mod KindLemmas
