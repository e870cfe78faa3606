-- Names as they are printed.
use Rattle.std.specs.Prelude.{ℕ, ◌+◌, ◌/◌, ◌%◌, Bool, not, ◌&&◌, ◌==◌, nat_le, nat_lt, List, [], ◌∷◌, flat_map, if◌then◌else◌}

-- a byte that stands as itself: 33 to 126, but for the percent sign
abbrev pub is_plain : ℕ → Bool
is_plain b = nat_le 33 b && nat_le b 126 && not (b == 37)

-- the hexadecimal digit of a number below 16
abbrev pub digit : ℕ → ℕ
digit v = if nat_lt v 10 then 48 + v else 87 + v

-- each other one stands as a percent sign and two digits
abbrev pub written_byte : ℕ → List ℕ
written_byte b = if is_plain b then b ∷ [] else 37 ∷ digit (b / 16) ∷ digit (b % 16) ∷ []

abbrev pub written : List ℕ → List ℕ
written name = flat_map written_byte name
