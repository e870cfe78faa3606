-- What a caller knows of each part, from what the workers keep over their calls.
use Rattle.std.proofs.Common.{◌≡◌, ℕ, zero, suc, ◌+◌, ◌<◌, Bool, true, false, cond, eqb, List, [], ◌∷◌, length, Some, slice_get, refl, sym, ap, ◌∙◌, subst, arith, All}
use Rattle.std.proofs.lemmas.Bool.{eq-eqb}
use Rattle.std.proofs.lemmas.Option.{get_or_from_slice_get, slice_get_within}
use Rattle.std.specs.List.{enumerate_from, filter}
use Rattle.workers.specs.Turns.{AreDone, Runs, calls_of}
use Rattle.workers.proofs.ListLemmas.{slice_get-is}

-- an element that passes a test stands among those that do
in_filter : {X : Type 0} (p : X → Bool) (xs : List X) (i : ℕ) (x : X) → slice_get xs i ≡ Some x → p x ≡ true → (k : ℕ) × (slice_get (filter p xs) k ≡ Some x)
in_filter p [] i x h t = cc
in_filter p (y ∷ xs) zero x h t =
    let e : y ≡ x = cc in
    let passes : p y ≡ true = ap p e ∙ t in
    (0, ap (λ b. slice_get (cond b (y ∷ filter p xs) (filter p xs)) 0) passes ∙ h)
in_filter p (y ∷ xs) (suc i) x h t =
    let there = in_filter p xs i x h t in
    elim (p y) as (λ b. (k : ℕ) × (slice_get (cond b (y ∷ filter p xs) (filter p xs)) k ≡ Some x)) [
      | true ↦ (suc there.0, there.1)
      | false ↦ there
    ]

-- an element stands beside its place
in_enumerate : {X : Type 0} (a : ℕ) (xs : List X) (i : ℕ) (x : X) → slice_get xs i ≡ Some x → slice_get (enumerate_from a xs) i ≡ Some (a + i, x)
in_enumerate a [] i x h = cc
in_enumerate {X} a (y ∷ xs) zero x h =
    let e : y ≡ x = cc in
    let k : a ≡ a + 0 = omega arith in
    ap (λ (z : X). Some (a, z)) e ∙ ap (λ (m : ℕ). Some (m, x)) k
in_enumerate {X} a (y ∷ xs) (suc i) x h =
    let k : a + 1 + i ≡ a + suc i = omega arith in
    in_enumerate (a + 1) xs i x h ∙ ap (λ (m : ℕ). Some (m, x)) k

-- a unit's part stands among the calls of the unit's worker
pub in_calls : {P : Type 0} (dealt : ℕ → ℕ) (parts : List P) (unit : ℕ) (part : P) → slice_get parts unit ≡ Some part
    → (k : ℕ) × (slice_get (calls_of dealt (dealt unit) parts) k ≡ Some (unit, part))
in_calls {P} dealt parts unit part h =
    let e : 0 + unit ≡ unit = omega arith in
    in_filter (λ call. eqb (dealt call.0) (dealt unit)) (enumerate_from 0 parts) unit (unit, part)
    (in_enumerate 0 parts unit part h ∙ ap (λ (m : ℕ). Some (m, part)) e) (eq-eqb (dealt unit) (dealt unit) refl)

-- workers that keep a fact over their calls, each of which promises one of its unit's part
module _ {W P : Type 0} {gives : W → ℕ → P → W → Type 0} (Kept : W → Type 0) (Promised : ℕ → P → Type 0)
    (keeps : (before : W) (unit : ℕ) (part : P) (after : W) → Kept before → gives before unit part after → Promised unit part × Kept after) where
  -- each call kept its promise
  runs_keep : (before : W) (calls : List (ℕ × P)) (after : W) → Kept before → Runs gives before calls after
      → (i unit : ℕ) (part : P) → slice_get calls i ≡ Some (unit, part) → Promised unit part
  runs_keep before [] after kept runs i unit part h = cc
  runs_keep before (call ∷ calls) after kept runs zero unit part h =
      let e : call ≡ (unit, part) = cc in
      subst (λ c. Promised c.0 c.1) e (keeps before call.0 call.1 runs.0 kept runs.1).0
  runs_keep before (call ∷ calls) after kept runs (suc i) unit part h =
      runs_keep runs.0 calls after (keeps before call.0 call.1 runs.0 kept runs.1).1 runs.2 i unit part h

  -- so each part is as promised
  pub every_part : {units : ℕ} {befores : List W} {parts : List P} {afters : List W} → All Kept befores → AreDone gives units befores parts afters
      → (unit : ℕ) (part : P) → slice_get parts unit ≡ Some part → Promised unit part
  every_part {befores = befores} {parts = parts} {afters = afters} kept done unit part h =
      let w = done.dealt unit in
      let less : done.dealt unit < length befores = done.to_one unit (subst (λ (k : ℕ). unit < k) done.count (slice_get_within parts unit part h)) in
      let before = slice_get-is befores w less in
      let after = slice_get-is afters w (subst (λ (k : ℕ). w < k) (sym done.workers) less) in
      let call = in_calls done.dealt parts unit part h in
      let begins = subst Kept (get_or_from_slice_get befores w before.0 before.0 before.1) (kept w before.0 less) in
      runs_keep before.0 (calls_of done.dealt w parts) after.0 begins (done.each w before.0 after.0 before.1 after.1) call.0 unit part call.1

-- Workers that stay as they are, and promise of each part a fact of what all of them see: it holds of each part.
pub every_part_alike : {W P S : Type 0} (seen : W → S) (promised : S → ℕ → P → Type 0) (same : S) {units : ℕ} {befores : List W} {parts : List P} {afters : List W}
    → All (λ work. seen work ≡ same) befores → AreDone (λ before unit part after. promised (seen before) unit part × (after ≡ before)) units befores parts afters
    → (unit : ℕ) (part : P) → slice_get parts unit ≡ Some part → promised same unit part
every_part_alike {W} {P} {S} seen promised same alike done =
    every_part (λ work. seen work ≡ same) (promised same)
    (λ before unit part after kept gave. (subst (λ s. promised s unit part) kept gave.0, ap seen gave.1 ∙ kept)) alike done
