-- The names in a directory, slot after slot.
use Rattle.std.proofs.Common.{◌≡◌, ◌<◌, ◌≤◌, ◌+◌, ◌*◌, ◌/◌, ◌-◌, ℕ, zero, suc, false, cond, leb, List, [], ◌++◌, refl, sym, ap, ◌∙◌, arith, Option, Some, add-zero, add-suc, add-one, inl, inr}
use Rattle.std.specs.Option.{option_map_or}
use Rattle.std.proofs.lemmas.Bool.{cases_lt, le-leb}
use Rattle.std.proofs.lemmas.Bool.Decides.{nat_tests}
use Rattle.std.proofs.lemmas.List.{append-nil}
use Rattle.model.specs.Layout.{Geometry}
use Rattle.model.specs.View.{View}
use Rattle.model.specs.Slots.{Absent, slot, slot_in}
use Rattle.model.specs.Reach.{slot_count}
use Rattle.machine.specs.Command.{Name}
use Rattle.machine.specs.Effects.{named, names_below}

module _ (geo : Geometry) (view : View) (d : ℕ) where
  pub names_none : names_below geo view d 0 ≡ []
  unfolding names_below
  names_none = refl

  -- the slots of the dots are left out
  pub names_dots : (s : ℕ) → s < 2 → names_below geo view d (suc s) ≡ names_below geo view d s
  unfolding names_below
  names_dots s before =
      let no : leb 2 s ≡ false = grind (arith, nat_tests) in
      ap (λ b. names_below geo view d s ++ cond b (named (slot geo view d s)) []) no ∙ append-nil (names_below geo view d s)

  pub names_more : (s : ℕ) → 2 ≤ s → names_below geo view d (suc s) ≡ names_below geo view d s ++ named (slot geo view d s)
  unfolding names_below
  names_more s from = ap (λ b. names_below geo view d s ++ cond b (named (slot geo view d s)) []) (le-leb 2 s from)

  -- a slot that is left out has no name
  names_absent : (s : ℕ) → slot geo view d s ≡ Absent → names_below geo view d (suc s) ≡ names_below geo view d s
  names_absent s absent = elim (cases_lt s 2) [
    | inl before ↦ names_dots s before
    | inr from ↦ names_more s from ∙ ap (λ x. names_below geo view d s ++ named x) absent ∙ append-nil (names_below geo view d s)
  ]

  some_absent : (start count : ℕ) → ((s : ℕ) → start ≤ s → s < start + count → slot geo view d s ≡ Absent) → names_below geo view d (start + count) ≡ names_below geo view d start
  some_absent start zero absent = ap (names_below geo view d) (add-zero start)
  some_absent start (suc count) absent =
      ap (names_below geo view d) (add-suc start count) ∙ names_absent (start + count) (absent (start + count) (omega arith) (omega arith))
      ∙ some_absent start count (λ s from below. absent s from (omega (arith, below)))

  -- a block that is left out has no names
  pub block_absent : (position : ℕ) → ((s : ℕ) → s / 16 ≡ position → slot geo view d s ≡ Absent) → names_below geo view d (16 * (position + 1)) ≡ names_below geo view d (16 * position)
  block_absent position absent =
      let end : 16 * (position + 1) ≡ 16 * position + 16 = omega arith in
      ap (names_below geo view d) end ∙ some_absent (16 * position) 16 (λ s from below. absent s (omega arith))

  -- one slot of a block more
  pub slot_more : (s : ℕ) (block : List ℕ) (o : Option (List ℕ)) (old new : List Name) → 2 ≤ s → o ≡ Some block
      → slot geo view d s ≡ option_map_or (λ b. slot_in geo b s) o Absent → old ≡ names_below geo view d s → new ≡ old ++ named (slot_in geo block s)
      → new ≡ names_below geo view d (s + 1)
  slot_more s block o old new from is at e f =
      f ∙ ap (λ xs. xs ++ named (slot_in geo block s)) e
      ∙ ap (λ x. names_below geo view d s ++ named x) (sym (at ∙ ap (λ q. option_map_or (λ b. slot_in geo b s) q Absent) is))
      ∙ sym (names_more s from) ∙ ap (names_below geo view d) (sym (add-one s))

  pub dots_more : (s : ℕ) (old : List Name) → s < 2 → old ≡ names_below geo view d s → old ≡ names_below geo view d (s + 1)
  dots_more s old before e = e ∙ sym (names_dots s before) ∙ ap (names_below geo view d) (sym (add-one s))

  -- the blocks up to the last have all names
  pub names_whole : (s : ℕ) → s ≤ slot_count geo → ((q : ℕ) → s ≤ q → slot geo view d q ≡ Absent) → names_below geo view d s ≡ names_below geo view d (slot_count geo)
  names_whole s low absent =
      let all : s + (slot_count geo - s) ≡ slot_count geo = omega arith in
      sym (some_absent s (slot_count geo - s) (λ q from below. absent q from)) ∙ ap (names_below geo view d) all
