-- The numbers of the snapshots that stand, by how many older ones there are.
use Rattle.std.specs.Prelude.{ℕ, ◌-◌, nat_lt, List, length, Option, None, slice_get, if◌then◌else◌}
use Rattle.std.specs.Option.{option_map}
use Rattle.frozen.specs.Kept.{Kept}
use Rattle.machine.specs.Standing.{Standing}

-- the number of that over which so many older ones stand
abbrev pub number_over : List (Standing Kept) → ℕ → Option ℕ
number_over standing older = if nat_lt older (length standing) then option_map (λ (k : Standing Kept). k.number) (slice_get standing (length standing - 1 - older)) else None
