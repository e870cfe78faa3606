mod RefusalLemmas
mod WordLemmas
