-- Tables of handles, and marks of held blocks.
use Rattle.std.proofs.Common.{◌≡◌, ◌<◌, ◌≤◌, ◌+◌, ℕ, zero, suc, Bool, true, false, cond, ltb, eqb, List, [], ◌∷◌, length, Option, Some, None, take, IsSome, refl, sym, subst, ap, ◌∙◌, inl, inr, arith, set as slice_set, get_or-set_same, get_or-set_other, length-set, slice_index_or, add-one}
use mathlib.Core.Path.{fun_ext}
use Rattle.std.specs.Option.{option_eq, option_map_or}
use Rattle.std.proofs.lemmas.Bool.{cases_eq, cases_lt, cond-true, lt-ltb}
use Rattle.std.proofs.lemmas.List.{get_or_past}
use Rattle.model.specs.Cells.{put_at}
use Rattle.model.proofs.Places.{put_here, put_there}
use Rattle.machine.specs.Below.{any_below}
use Rattle.machine.proofs.Decisions.{any_here, any_none}
use Rattle.live_states.specs.Holdings.{holding}
use Rattle.live_states.specs.Snapshots.{unmarked}

-- a table with another entry
pub table_set : (l : List (Option ℕ)) (h : ℕ) (o : Option ℕ) → h < length l → (λ g. slice_index_or (slice_set l h o) g None) ≡ put_at (λ g. slice_index_or l g None) h o
table_set l h o low = fun_ext (λ g. elim (cases_eq g h) [
  | inl e ↦ ap (λ (x : ℕ). slice_index_or (slice_set l h o) x None) e ∙ get_or-set_same l h o None low ∙ sym (put_here (λ x. slice_index_or l x None) h o) ∙ ap (put_at (λ x. slice_index_or l x None) h o) (sym e)
  | inr d ↦ get_or-set_other l h g o None d ∙ sym (put_there (λ x. slice_index_or l x None) h g o d)
])

-- whether an entry is this number
abbrev pub is_on : ℕ → Option ℕ → Bool
is_on i o = option_map_or (λ j. eqb j i) o false

-- the test of a table's entries below the bound
abbrev pub open_in : List (Option ℕ) → ℕ → ℕ → Bool
open_in l i h = is_on i (cond (ltb h 1024) (slice_index_or l h None) None)

below_is : (i : ℕ) (o : Option ℕ) (b : Bool) → is_on i o ≡ false → is_on i (cond b o None) ≡ false
below_is i o true e = e
below_is i o false e = refl

pub none_open : (l : List (Option ℕ)) (i : ℕ) → ((h : ℕ) → h < length l → is_on i (slice_index_or l h None) ≡ false) → any_below 1024 (open_in l i) ≡ false
none_open l i none = any_none 1024 (open_in l i) (λ h low. below_is i (slice_index_or l h None) (ltb h 1024) (elim (cases_lt h (length l)) [
  | inl within ↦ none h within
  | inr past ↦ ap (is_on i) (get_or_past l h None past)
]))

pub some_open : (l : List (Option ℕ)) (i h : ℕ) → length l ≤ 1024 → h < length l → is_on i (slice_index_or l h None) ≡ true → any_below 1024 (open_in l i) ≡ true
some_open l i h few low is =
    any_here 1024 (open_in l i) h (omega (arith, few, low)) (ap (is_on i) (cond-true (ltb h 1024) (slice_index_or l h None) None (lt-ltb h 1024 (omega (arith, few, low)))) ∙ is)

pub on_is_eq : (i : ℕ) (o : Option ℕ) → is_on i o ≡ option_eq eqb o (Some i)
on_is_eq i None = refl
on_is_eq i (Some j) = refl

-- an entry besides the one that is closed, and that one
pub besides : (l : List (Option ℕ)) (h g : ℕ) → (g ≡ h → ⊥) → slice_index_or (slice_set l h None) g None ≡ slice_index_or l g None
besides l h g differs = get_or-set_other l h g None None differs

pub closed_one : (l : List (Option ℕ)) (i h : ℕ) → is_on i (slice_index_or (slice_set l h None) h None) ≡ false
closed_one l i h = elim (cases_lt h (length l)) [
  | inl low ↦ ap (is_on i) (get_or-set_same l h None None low)
  | inr high ↦ ap (is_on i) (get_or_past (slice_set l h None) h None (omega (arith, high, length-set l h None)))
]

-- a handle before which all are open is in the table, or stands behind its end
pub within_table : (l : List (Option ℕ)) (h : ℕ) → ((g : ℕ) → g < h → IsSome (slice_index_or l g None)) → (h ≡ length l → ⊥) → h < length l
within_table l h before differs = elim (cases_lt h (length l)) [
  | inl within ↦ within
  | inr past ↦ absurd (
      let none = get_or_past l (length l) None (omega arith) in
      let some : IsSome (slice_index_or l (length l) None) = before (length l) (omega (arith, past, differs)) in
      let bad : IsSome {T = ℕ} None = subst (λ (o : Option ℕ). IsSome o) none some in
      let wrong : false ≡ true = bad in cc)
]

-- held blocks, one more at a time
pub holding_length : (blocks : List ℕ) (held : List Bool) → length (holding blocks held) ≡ length held
holding_length [] held = refl
holding_length (a ∷ blocks) held = holding_length blocks (slice_set held a true) ∙ length-set held a true

holding_more : (blocks : List ℕ) (k : ℕ) (held : List Bool) → k < length blocks → holding (take (suc k) blocks) held ≡ slice_set (holding (take k blocks) held) (slice_index_or blocks k 0) true
holding_more [] k held low = absurd (omega (arith, low))
holding_more (b ∷ blocks) zero held low = refl
holding_more (b ∷ blocks) (suc k) held low = holding_more blocks k (slice_set held b true) (omega (arith, low))

pub holding_next : (blocks : List ℕ) (k : ℕ) (held : List Bool) → k < length blocks → holding (take (k + 1) blocks) held ≡ slice_set (holding (take k blocks) held) (slice_index_or blocks k 0) true
holding_next blocks k held low = ap (λ n. holding (take n blocks) held) (add-one k) ∙ holding_more blocks k held low

-- and one less at a time
pub unmarked_length : (blocks : List ℕ) (held : List Bool) → length (unmarked blocks held) ≡ length held
unmarked_length [] held = refl
unmarked_length (a ∷ blocks) held = unmarked_length blocks (slice_set held a false) ∙ length-set held a false

unmarked_more : (blocks : List ℕ) (k : ℕ) (held : List Bool) → k < length blocks → unmarked (take (suc k) blocks) held ≡ slice_set (unmarked (take k blocks) held) (slice_index_or blocks k 0) false
unmarked_more [] k held low = absurd (omega (arith, low))
unmarked_more (b ∷ blocks) zero held low = refl
unmarked_more (b ∷ blocks) (suc k) held low = unmarked_more blocks k (slice_set held b false) (omega (arith, low))

pub unmarked_next : (blocks : List ℕ) (k : ℕ) (held : List Bool) → k < length blocks → unmarked (take (k + 1) blocks) held ≡ slice_set (unmarked (take k blocks) held) (slice_index_or blocks k 0) false
unmarked_next blocks k held low = ap (λ n. unmarked (take n blocks) held) (add-one k) ∙ unmarked_more blocks k held low
