-- Bytes that were given part by part, each part as so many bytes of a room.
use Rattle.std.specs.Prelude.{ℕ, List, [], ◌∷◌, ◌++◌, take}
use Rattle.std.proofs.Common.{Vec, Global}

abbrev pub Part : Type 0
Part = ℕ × Vec ℕ Global

abbrev pub bytes_in : List Part → List ℕ
bytes_in [] = []
bytes_in (part ∷ parts) = take part.0 part.1.items ++ bytes_in parts
