mod FindingLemmas
mod VerdictLemmas
mod OrderLemmas
mod PartLemmas
