-- What makes a block.
use Rattle.std.proofs.Common.{◌≡◌, ◌<◌, ℕ, List, length, get_or}
use Rattle.std.proofs.lemmas.List.Elements.{All-from_get_or}
use Rattle.model.specs.Image.{IsBlock}

pub is_block : (block : List ℕ) → length block ≡ 1024 → ((i : ℕ) → get_or block i 0 < 256) → IsBlock block
is_block block long fits = record { length = long; bytes = All-from_get_or (λ b. b < 256) block 0 (λ k b. fits k) }
