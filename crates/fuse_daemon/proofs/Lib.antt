mod ServedLemmas
mod WentLemmas
