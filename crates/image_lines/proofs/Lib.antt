pub mod NumberLemmas
mod CheckLemmas
mod RepairLemmas
mod MountLemmas
