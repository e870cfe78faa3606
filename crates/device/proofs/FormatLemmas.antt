-- A device that has the fresh block at each address has the fresh image.
use Rattle.std.proofs.Common.{◌≡◌, ◌<◌, ◌≤◌, ◌+◌, ℕ, List, [], length, get_or, set as slice_set, sym, ap, ◌∙◌, arith, inl, inr, get_or-set_same, get_or-set_other}
use Rattle.std.proofs.lemmas.Bool.{cases_eq, cases_lt}
use Rattle.std.proofs.lemmas.List.FromFn.{fill_by_all}
use Rattle.model.specs.Layout.{Geometry, block_count}
use Rattle.model.specs.Image.{block_at}
use Rattle.layout.specs.Fresh.{fresh_image, fresh_bytes, zero_block}

pub all_written : (geo : Geometry) (image : List (List ℕ)) → length image ≡ block_count geo
    → ((k : ℕ) → k < block_count geo → block_at image k ≡ fresh_bytes geo k) → image ≡ fresh_image geo
unfolding fresh_image
all_written geo image count each = fill_by_all (fresh_bytes geo) image (block_count geo) [] count each

-- one more block is written
pub one_written : (f : ℕ → List ℕ) (old new : List (List ℕ)) (i : ℕ) (block : List ℕ) → i < length old → ((k : ℕ) → k < i → block_at old k ≡ f k)
    → new ≡ slice_set old i block → block ≡ f i → (k : ℕ) → k < i + 1 → block_at new k ≡ f k
one_written f old new i block low each is right k b = ap (λ image. block_at image k) is ∙ (elim (cases_eq k i) [
  | inl e ↦ ap (λ j. get_or (slice_set old i block) j []) e ∙ get_or-set_same old i block [] low ∙ right ∙ ap f (sym e)
  | inr differs ↦ get_or-set_other old i k block [] differs ∙ each k (omega (arith, b, differs))
])

-- the blocks up to the next address that is looked at, those between being zeroes
pub written_to_next : (f : ℕ → List ℕ) (image : List (List ℕ)) (i next : ℕ) → next ≤ length image → ((k : ℕ) → k < i + 1 → block_at image k ≡ f k)
    → ((k : ℕ) → i < k → k < next → (block_at image k ≡ zero_block) × (f k ≡ zero_block)) → (k : ℕ) → k < next → block_at image k ≡ f k
written_to_next f image i next within before between k b = elim (cases_lt k (i + 1)) [
  | inl low ↦ before k low
  | inr far ↦ let both = between k (omega (arith, far)) b in both.0 ∙ sym both.1
]
