-- Paths that are there, and refusals that are handed on.
use Rattle.std.proofs.Common.{◌≡◌, ◌⊎◌, ◌++◌, [], ℕ, Bool, true, false, List, Option, Some, None, Result, Err, inl, inr, refl, sym, ap, subst, ◌∙◌}
use Rattle.std.specs.Prelude.{IfSome, IsSome, IsTrue, ◌↔◌}
use Rattle.fuse_wire.specs.declared.errors.Errno.{Errno}
use Rattle.fuse_wire.specs.declared.errors.Errno.TheVariants as errors
use Rattle.fuse_writer.specs.Doings.{Doing, GivesPath, MayGoOn, refuses}

pub whole_path : (o : Option (List ℕ)) (old new : List ℕ) (found : Bool) → old ≡ [] → IsTrue found ↔ IsSome o → found ≡ true → IfSome o (λ path. new ≡ old ++ path) → o ≡ Some new
whole_path (Some path) old new found none h is e = ap (λ (xs : List ℕ). Some xs) (sym (e ∙ ap (λ (xs : List ℕ). xs ++ path) none))
whole_path None old new found none h is e = let there = h.0 is in absurd cc

pub no_path : (o : Option (List ℕ)) (found : Bool) → IsTrue found ↔ IsSome o → found ≡ false → o ≡ None
no_path None found h is = refl
no_path (Some path) found h is = let there = h.1 refl in absurd cc

module _ {V : Type 0} (items : V → List ℕ) (doing : (List ℕ → Doing) → Doing) (P : Type 0) (none : (next : List ℕ → Doing) → MayGoOn (doing next) (refuses errors.NoMemory))
    (stale : P → (next : List ℕ → Doing) → MayGoOn (doing next) (refuses errors.Stale)) where
  by_cases : (error : Errno) → (error ≡ errors.NoMemory) ⊎ ((error ≡ errors.Stale) × P) → (next : List ℕ → Doing) → MayGoOn (doing next) (refuses error)
  by_cases error (inl is) next = subst (λ (e : Errno). MayGoOn (doing next) (refuses e)) (sym is) (none next)
  by_cases error (inr h) next = subst (λ (e : Errno). MayGoOn (doing next) (refuses e)) (sym h.0) (stale h.1 next)

  -- that there is no memory, or that the node is stale
  pub handed_on : (error : Errno) → (error ≡ errors.NoMemory) ⊎ ((error ≡ errors.Stale) × P) → (r : Result V Errno) → (y : Errno) × (r ≡ Err y) × (y ≡ error) → GivesPath items r doing
  handed_on error cases r left =
      subst (λ (o : Result V Errno). GivesPath items o doing) (sym left.1)
      (subst (λ (e : Errno). (next : List ℕ → Doing) → MayGoOn (doing next) (refuses e)) (sym left.2) (by_cases error cases))
