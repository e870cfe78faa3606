mod StopLemmas
mod BlameLemmas
pub mod AskingLemmas
pub mod MountLemmas
