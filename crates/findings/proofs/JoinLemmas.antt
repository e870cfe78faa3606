-- What lists that stand one behind another have, and so what is found of all groups.
use Rattle.std.proofs.Common.{◌≡◌, ◌<◌, ℕ, zero, suc, List, [], ◌∷◌, length, Some, slice_get, Contains, Bool, inl, inr, refl, sym, subst, arith}
use Rattle.std.specs.List.{flat_map}
use Rattle.std.proofs.lemmas.List.Elements.{Contains-append_cases, Contains-append_left, Contains-append_right}
use Rattle.std.proofs.lemmas.Option.{none-some, same_Some}
use Rattle.findings.proofs.Sorted.{Contains-none}
use Rattle.findings.specs.declared.finding.Finding.{Finding}
use Rattle.model.specs.Layout.{Geometry, IsGeometry}
use Rattle.model.specs.View.{View}
use Rattle.findings.specs.Groups.{AreFoundIn, AreFoundOf, IsEach, group_of}
use Rattle.findings.proofs.PlaceLemmas.{of_a_group}

module _ {X A : Type 0} (f : X → List A) where
  -- whatever stands in the lists stands in one of them
  pub in_some : (xs : List X) (y : A) → Contains (flat_map f xs) y → (g : ℕ) × (x : X) × (slice_get xs g ≡ Some x) × Contains (f x) y
  in_some [] y h = absurd (Contains-none y h)
  in_some (x ∷ xs) y h = elim (Contains-append_cases (f x) (flat_map f xs) y h) [
    | inl here ↦ (zero, x, refl, here)
    | inr there ↦ let r = in_some xs y there in (suc r.0, r.1, r.2, r.3)
  ]

  -- and the other way round
  pub from_some : (xs : List X) (g : ℕ) (x : X) (y : A) → slice_get xs g ≡ Some x → Contains (f x) y → Contains (flat_map f xs) y
  from_some [] g x y e h = absurd (none-some x e)
  from_some (z ∷ xs) zero x y e h = Contains-append_left (f z) (flat_map f xs) y (subst (λ w. Contains (f w) y) (sym (same_Some z x e)) h)
  from_some (z ∷ xs) (suc g) x y e h = Contains-append_right (f z) (flat_map f xs) y (from_some xs g x y e h)

-- what stands in a place of a list
pub stands_at : {X : Type 0} (xs : List X) (i : ℕ) → i < length xs → (x : X) × (slice_get xs i ≡ Some x)
stands_at [] i low = absurd (omega (arith, low))
stands_at (x ∷ xs) zero low = (x, refl)
stands_at (x ∷ xs) (suc i) low = stands_at xs i (omega (arith, low))

-- what is found of each group is all that is found
pub found_of_all : {P : Type 0} (found_of : P → List Finding) (parts : List P) (kinds : Finding → Bool) (geo : Geometry) (view : View) → IsGeometry geo
    → IsEach (λ g one. AreFoundIn kinds geo view g (found_of one)) geo.groups parts → AreFoundOf kinds geo view (flat_map found_of parts)
found_of_all found_of parts kinds geo view ok each f = (
  (λ h.
      let r = in_some found_of parts f h in
      let s = (each.each r.0 r.1 r.2 f).0 r.3 in (s.0, s.2)),
  (λ h.
      let p = stands_at parts (group_of geo f) (subst (λ n. group_of geo f < n) (sym each.count) (of_a_group geo ok view f h.1)) in
      from_some found_of parts (group_of geo f) p.0 f p.1 ((each.each (group_of geo f) p.0 p.1 f).1 (h.0, refl, h.1))),
)
