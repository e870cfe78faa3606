-- Numbers and names in a message.
use Rattle.std.specs.Prelude.{ℕ, zero, suc, ◌+◌, ◌==◌, List, [], ◌∷◌, ◌++◌, take, drop, position, Option, option_map}
use Rattle.byteorder.specs.Endian.{little_bytes, little_number}

-- the number of 32 bits, or of 64, that stands there
abbrev pub word_at : ℕ → List ℕ → ℕ
word_at i bytes = little_number 4 (drop i bytes)

abbrev pub long_at : ℕ → List ℕ → ℕ
long_at i bytes = little_number 8 (drop i bytes)

-- the bytes before the first zero, and those behind it
abbrev pub name_at : List ℕ → Option (List ℕ × List ℕ)
name_at bytes = option_map (λ n. (take n bytes, drop (n + 1) bytes)) (position (λ byte. byte == 0) bytes)

-- the numbers, of n bytes each, one after another
abbrev pub numbers : ℕ → List ℕ → List ℕ
numbers n [] = []
numbers n (x ∷ xs) = little_bytes n x ++ numbers n xs
