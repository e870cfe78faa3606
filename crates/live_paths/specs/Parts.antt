-- The parts of a path, from its bytes.
use Rattle.std.specs.Prelude.{ℕ, ◌==◌, List, [], ◌∷◌}
use Rattle.std.specs.List.{slice_split}

-- what stands between the '/' of these bytes
abbrev pub pieces : List ℕ → List (List ℕ)
pieces bytes = slice_split (λ b. b == 47) bytes

-- the parts of a path of which this stands behind the first '/': none where nothing does
abbrev pub parts_behind : List ℕ → List (List ℕ)
parts_behind [] = []
parts_behind (b ∷ bytes) = pieces (b ∷ bytes)
