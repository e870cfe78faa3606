pub mod CallLemmas
pub mod RunLemmas
pub mod EarlierLemmas
pub mod KeepLemmas
pub mod NewFileLemmas
