-- Blocks in slots, as writes: one that is put there, and one that is replaced.
use Rattle.std.proofs.Common.{◌≡◌, ◌<◌, ◌≤◌, ◌+◌, ◌*◌, ℕ, zero, suc, Option, Some, None, List, [], ◌∷◌, length, slice_index_or, set as slice_set, refl, sym, ap, ap₂, ◌∙◌, subst, arith}
use Rattle.std.proofs.lemmas.Option.{none-some, same_Some, some_pair_parts}
use Rattle.file_device.specs.declared.run.earlier.Slot.{Slot}
use Rattle.device.specs.Writes.{Write}
use Rattle.file_device.specs.Runs.{AreCopies, IsCopy, filled, replaced, slots_from}
use Rattle.file_device.proofs.RunLemmas.{replaced_other, replaced_same}

-- ---- what slots hold

pub length-slots_from : (i : ℕ) (slots : List (Option Slot)) → length (slots_from i slots) ≡ length slots
length-slots_from i [] = refl
length-slots_from i (slot ∷ slots) = ap suc (length-slots_from (suc i) slots)

-- a slot that is filled
pub filled_slot : (i k : ℕ) (slots : List (Option Slot)) (s : Slot) → slice_index_or slots k None ≡ Some s → slice_index_or (slots_from i slots) k None ≡ Some (31 * s.quotient + (i + k), s.block)
filled_slot i k [] s is = absurd (none-some s is)
filled_slot i zero (None ∷ slots) s is = absurd (none-some s is)
filled_slot i zero (Some t ∷ slots) s is = ap (λ (u : Slot). Some (31 * u.quotient + i, u.block)) (same_Some t s is) ∙ ap (λ n. Some (31 * s.quotient + n, s.block)) (let e : i ≡ i + 0 = omega arith in e)
filled_slot i (suc k) (slot ∷ slots) s is = filled_slot (suc i) k slots s is ∙ ap (λ n. Some (31 * s.quotient + n, s.block)) (let e : suc i + k ≡ i + suc k = omega arith in e)

-- a slot that is empty
pub empty_slot : (i k : ℕ) (slots : List (Option Slot)) → slice_index_or slots k None ≡ None → slice_index_or (slots_from i slots) k None ≡ None
empty_slot i k [] is = refl
empty_slot i zero (None ∷ slots) is = refl
empty_slot i zero (Some t ∷ slots) is = absurd (none-some t (sym is))
empty_slot i (suc k) (slot ∷ slots) is = empty_slot (suc i) k slots is

-- a block is put into a slot
pub slots_from-set : (i k : ℕ) (slots : List (Option Slot)) (s : Slot) → slots_from i (slice_set slots k (Some s)) ≡ slice_set (slots_from i slots) k (Some (31 * s.quotient + (i + k), s.block))
slots_from-set i k [] s = refl
slots_from-set i zero (slot ∷ slots) s = ap (λ n. Some (31 * s.quotient + n, s.block) ∷ slots_from (suc i) slots) (let e : i ≡ i + 0 = omega arith in e)
slots_from-set i (suc k) (slot ∷ slots) s =
    ap₂ (λ w ws. w ∷ ws) refl
    (slots_from-set (suc i) k slots s ∙ ap (λ n. slice_set (slots_from (suc i) slots) k (Some (31 * s.quotient + n, s.block))) (let e : suc i + k ≡ i + suc k = omega arith in e))

-- ---- copies

-- a copy is put into a slot
put_copies : (image : List (List ℕ)) (slots : List (Option Write)) (k : ℕ) (w : Write) → IsCopy image w → AreCopies image (filled slots) → AreCopies image (filled (slice_set slots k (Some w)))
put_copies image [] k w is h = tt
put_copies image (None ∷ slots) zero w is h = (is, h)
put_copies image (Some v ∷ slots) zero w is h = (is, h.1)
put_copies image (None ∷ slots) (suc k) w is h = put_copies image slots k w is h
put_copies image (Some v ∷ slots) (suc k) w is h = (h.0, put_copies image slots k w is h.1)

pub kept_copies : (image : List (List ℕ)) (old new : List (Option Write)) (k : ℕ) (w : Write) → new ≡ slice_set old k (Some w) → IsCopy image w → AreCopies image (filled old) → AreCopies image (filled new)
kept_copies image old new k w put is h = subst (λ slots. AreCopies image (filled slots)) (sym put) (put_copies image old k w is h)

-- what a slot holds, where all hold copies
pub slot_copy : (image : List (List ℕ)) (slots : List (Option Write)) (k : ℕ) (w : Write) → AreCopies image (filled slots) → slice_index_or slots k None ≡ Some w → IsCopy image w
slot_copy image [] k w h is = absurd (none-some w is)
slot_copy image (None ∷ slots) zero w h is = absurd (none-some w is)
slot_copy image (Some v ∷ slots) zero w h is = subst (IsCopy image) (same_Some v w is) h.0
slot_copy image (None ∷ slots) (suc k) w h is = slot_copy image slots k w h is
slot_copy image (Some v ∷ slots) (suc k) w h is = slot_copy image slots k w h.1 is

-- ---- a block is replaced

-- not where all slots are behind that of its address
replaced_behind : (a q r : ℕ) (block : List ℕ) (i : ℕ) (slots : List (Option Slot)) → a ≡ 31 * q + r → r < i → i + length slots ≤ 31
    → filled (slots_from i slots) ≡ replaced a block (filled (slots_from i slots))
replaced_behind a q r block i [] at out few = refl
replaced_behind a q r block i (None ∷ slots) at out few = replaced_behind a q r block (suc i) slots at (omega (arith, out)) (omega (arith, few))
replaced_behind a q r block i (Some s ∷ slots) at out few =
    ap₂ (λ w ws. w ∷ ws) (sym (replaced_other a block (31 * s.quotient + i, s.block) (λ e. omega (arith, e, at, out, few))))
    (replaced_behind a q r block (suc i) slots at (omega (arith, out)) (omega (arith, few)))

-- not where the slot of its address has none of it
pub replaced_nowhere : (a q i k : ℕ) (block : List ℕ) (slots : List (Option Slot)) → a ≡ 31 * q + (i + k) → i + k < 31 → i + length slots ≤ 31
    → ((old : List ℕ) → slice_index_or (slots_from i slots) k None ≡ Some (a, old) → ⊥) → filled (slots_from i slots) ≡ replaced a block (filled (slots_from i slots))
replaced_nowhere a q i k block [] at low few none = refl
replaced_nowhere a q i zero block (None ∷ slots) at low few none = replaced_behind a q i block (suc i) slots (omega (arith, at)) (omega arith) (omega (arith, few))
replaced_nowhere a q i zero block (Some s ∷ slots) at low few none =
    ap₂ (λ w ws. w ∷ ws) (sym (replaced_other a block (31 * s.quotient + i, s.block) (λ e. none s.block (ap (λ n. Some (n, s.block)) e))))
    (replaced_behind a q i block (suc i) slots (omega (arith, at)) (omega arith) (omega (arith, few)))
replaced_nowhere a q i (suc k) block (None ∷ slots) at low few none = replaced_nowhere a q (suc i) k block slots (omega (arith, at)) (omega (arith, low)) (omega (arith, few)) none
replaced_nowhere a q i (suc k) block (Some s ∷ slots) at low few none =
    ap₂ (λ w ws. w ∷ ws) (sym (replaced_other a block (31 * s.quotient + i, s.block) (λ e. omega (arith, e, at, low))))
    (replaced_nowhere a q (suc i) k block slots (omega (arith, at)) (omega (arith, low)) (omega (arith, few)) none)

-- in the slot of its address
pub replaced_there : (a q i k : ℕ) (old block : List ℕ) (slots : List (Option Slot)) → a ≡ 31 * q + (i + k) → i + k < 31 → i + length slots ≤ 31
    → slice_index_or (slots_from i slots) k None ≡ Some (a, old) → filled (slice_set (slots_from i slots) k (Some (a, block))) ≡ replaced a block (filled (slots_from i slots))
replaced_there a q i k old block [] at low few is = absurd (none-some _ is)
replaced_there a q i zero old block (None ∷ slots) at low few is = absurd (none-some _ is)
replaced_there a q i zero old block (Some s ∷ slots) at low few is =
    ap₂ (λ w ws. w ∷ ws) (sym (replaced_same a block (31 * s.quotient + i, s.block) (some_pair_parts _ _ _ _ is).0))
    (replaced_behind a q i block (suc i) slots (omega (arith, at)) (omega arith) (omega (arith, few)))
replaced_there a q i (suc k) old block (None ∷ slots) at low few is = replaced_there a q (suc i) k old block slots (omega (arith, at)) (omega (arith, low)) (omega (arith, few)) is
replaced_there a q i (suc k) old block (Some s ∷ slots) at low few is =
    ap₂ (λ w ws. w ∷ ws) (sym (replaced_other a block (31 * s.quotient + i, s.block) (λ e. omega (arith, e, at, low))))
    (replaced_there a q (suc i) k old block slots (omega (arith, at)) (omega (arith, low)) (omega (arith, few)) is)
