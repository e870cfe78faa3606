-- Blocks of zeroes.
use Rattle.std.specs.Prelude.{◌≡◌, ℕ, ◌<◌, List, length}
use Rattle.std.proofs.Common.{refl, arith}
use Rattle.std.proofs.lemmas.List.Elements.{All-replicate}
use Rattle.model.specs.Image.{IsBlock, block_at}
use Rattle.layout.specs.Fresh.{zero_block}

-- each block of the image is zeroes
abbrev pub AreZeroes : List (List ℕ) → Type 0
AreZeroes image = (a : ℕ) → a < length image → block_at image a ≡ zero_block

pub zeroes_are_whole : IsBlock zero_block
zeroes_are_whole = record { length = refl; bytes = All-replicate (λ b. b < 256) 1024 0 (omega arith) }
