-- The table as the program's map has it, and as it is seen.
use Rattle.std.proofs.Common.{◌≡◌, ℕ, List, [], Some, None, ap, ◌∙◌, Vec, Global}
use Rattle.std.specs.Option.{option_map, unwrap_or}
use Rattle.model.specs.Tables.{value_in}
use Rattle.model.proofs.Tables.{seen_values, value_seen}
use Rattle.directories.specs.Named.{numbers_in}

-- the items of a vector
abbrev pub items : Vec ℕ Global → List ℕ
items numbers = numbers.items

pub numbers_here : (table : List (ℕ × Vec ℕ Global)) (d : ℕ) (numbers : Vec ℕ Global) → value_in table d ≡ Some numbers → numbers_in (seen_values items table) d ≡ numbers.items
numbers_here table d numbers e = ap (λ o. unwrap_or o []) (value_seen items table d ∙ ap (option_map items) e)

pub numbers_nowhere : (table : List (ℕ × Vec ℕ Global)) (d : ℕ) → value_in table d ≡ None → numbers_in (seen_values items table) d ≡ []
numbers_nowhere table d e = ap (λ o. unwrap_or o []) (value_seen items table d ∙ ap (option_map items) e)
