pub mod PackedLemmas
