-- How often numbers stand in a list.
use Rattle.std.specs.Prelude.{ℕ, Bool, ◌==◌, List, length, Option, Some, None, suc}
use Rattle.std.specs.List.{filter}

-- how often a number stands in a list
abbrev pub occurrences : ℕ → List ℕ → ℕ
occurrences i xs = length (filter (λ j. j == i) xs)

-- how many of a list are in a set
abbrev pub count_in : (ℕ → Bool) → List ℕ → ℕ
count_in set xs = length (filter set xs)

-- a number that there may be, as the table has it: one more than the number, or 0
abbrev pub code : Option ℕ → ℕ
code None = 0
code (Some i) = suc i
