mod NumberCases
mod NumberLemmas
mod WalkLemmas
