-- Lists and sets that grow.
use Rattle.std.specs.Prelude.{List, ◌⊎◌, ◌↔◌}
use Rattle.std.specs.List.{Contains}

-- the new list has what the old one has, and what P holds of
abbrev pub Adds : {K : Type 0} → (K → Type 0) → List K → List K → Type 0
Adds {K} P old new = (x : K) → Contains new x ↔ (Contains old x ⊎ P x)
