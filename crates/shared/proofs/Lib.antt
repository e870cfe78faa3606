mod TraceLemmas
mod SyncLemmas
