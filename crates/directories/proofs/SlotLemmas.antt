-- The slots of a block of a directory, and the blocks of a directory.
use Rattle.std.proofs.Common.{◌≡◌, ◌<◌, ◌≤◌, ◌+◌, ◌*◌, ◌/◌, ℕ, zero, suc, List, ◌++◌, Option, Some, sym, ap, ◌∙◌, arith, add-zero, add-suc, add-one}
use Rattle.std.specs.Option.{option_map_or}
use Rattle.model.specs.Layout.{Geometry}
use Rattle.model.specs.View.{View}
use Rattle.model.specs.Slots.{Absent, slot, slot_in}
use Rattle.model.specs.Named.{named_below, number_of}
use Rattle.model.proofs.NamedLemmas.{named_absent, named_more}

module _ (geo : Geometry) (view : View) (d first : ℕ) where
  some_absent : (start count : ℕ) → ((s : ℕ) → start ≤ s → s < start + count → slot geo view d s ≡ Absent) → named_below geo view first d (start + count) ≡ named_below geo view first d start
  some_absent start zero absent = ap (named_below geo view first d) (add-zero start)
  some_absent start (suc count) absent =
      ap (named_below geo view first d) (add-suc start count) ∙ named_absent geo view d first (start + count) (absent (start + count) (omega arith) (omega arith))
      ∙ some_absent start count (λ s from below. absent s from (omega (arith, below)))

  -- a block that is left out names nothing
  pub block_absent : (position : ℕ) → ((s : ℕ) → s / 16 ≡ position → slot geo view d s ≡ Absent)
      → named_below geo view first d (16 * (position + 1)) ≡ named_below geo view first d (16 * position)
  block_absent position absent =
      let end : 16 * (position + 1) ≡ 16 * position + 16 = omega arith in
      ap (named_below geo view first d) end ∙ some_absent (16 * position) 16 (λ s from below. absent s (omega arith))

  -- one slot of a block more
  pub slot_more : (s : ℕ) (block : List ℕ) (o : Option (List ℕ)) (old new : List ℕ) → first ≤ s → o ≡ Some block
      → slot geo view d s ≡ option_map_or (λ b. slot_in geo b s) o Absent → old ≡ named_below geo view first d s → new ≡ old ++ number_of (slot_in geo block s)
      → new ≡ named_below geo view first d (s + 1)
  slot_more s block o old new from is at e f =
      f ∙ ap (λ xs. xs ++ number_of (slot_in geo block s)) e
      ∙ ap (λ x. named_below geo view first d s ++ number_of x) (sym (at ∙ ap (λ q. option_map_or (λ b. slot_in geo b s) q Absent) is))
      ∙ sym (named_more geo view d first s from) ∙ ap (named_below geo view first d) (sym (add-one s))
