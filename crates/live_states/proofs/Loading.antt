-- What is kept is of some image: its missing blocks may hold zeroes.
use Rattle.std.proofs.Common.{◌≡◌, ◌<◌, ℕ, zero, suc, List, [], ◌∷◌, map, All, Option, Some, None, unwrap_or, replicate, refl, sym, ap, ◌∙◌, arith}
use Rattle.std.proofs.lemmas.List.{length-map, length-replicate}
use Rattle.std.proofs.lemmas.List.Elements.{All-replicate}
use Rattle.std.proofs.lemmas.Option.{none-some}
use Rattle.model.specs.Image.{IsBlock}
use Rattle.frozen.specs.Kept.{Kept, KeepsMetadata, IsKeptOf, kept_at}
use Rattle.frozen.specs.Loading.{AreBlocksOf}
use Rattle.frozen.proofs.KeepingLemmas.{all_kept_of}

abbrev zeroes : List ℕ
zeroes = replicate 1024 0

zeroes_are_a_block : IsBlock zeroes
zeroes_are_a_block = record { length = length-replicate {A = ℕ} 1024 0; bytes = All-replicate (λ b. b < 256) 1024 0 (omega arith) }

-- the kept blocks, with zeroes where none is kept
abbrev pub filled : List (Option (List ℕ)) → List (List ℕ)
filled blocks = map (λ o. unwrap_or o zeroes) blocks

filled_at : (blocks : List (Option (List ℕ))) → AreBlocksOf blocks (filled blocks)
filled_at [] a b e = absurd (none-some b e)
filled_at (o ∷ blocks) zero b e = ap (λ x. unwrap_or x zeroes) (sym e)
filled_at (o ∷ blocks) (suc a) b e = filled_at blocks a b e

filled_whole : (blocks : List (Option (List ℕ))) → ((a : ℕ) (b : List ℕ) → kept_at blocks a ≡ Some b → IsBlock b) → All IsBlock (filled blocks)
filled_whole [] whole k d low = absurd (omega (arith, low))
filled_whole (Some b ∷ blocks) whole zero d low = whole 0 b refl
filled_whole (None ∷ blocks) whole zero d low = zeroes_are_a_block
filled_whole (o ∷ blocks) whole (suc k) d low = filled_whole blocks (λ a. whole (suc a)) k d (omega (arith, low))

pub of_an_image : (kept : Kept) → KeepsMetadata kept → (image : List (List ℕ)) × IsKeptOf kept image
of_an_image kept keeps = (
  filled kept.blocks,
  all_kept_of kept (filled kept.blocks) keeps (filled_at kept.blocks)
      (length-map kept.blocks (λ o. unwrap_or o zeroes) ∙ keeps.frame.count)
      (filled_whole kept.blocks keeps.frame.whole),
)
