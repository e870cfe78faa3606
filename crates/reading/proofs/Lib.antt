mod CauseLemmas
mod ByteLemmas
