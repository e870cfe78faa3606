-- What is added where a fact holds, and nothing where it does not.
use Rattle.std.proofs.Common.{◌≡◌, List, [], ◌∷◌, ◌++◌, Contains, Result, Ok, Err, OnOk, inl, inr, sym, subst}
use Rattle.std.proofs.lemmas.List.Elements.{Contains-append_left, Contains-append_right, Contains-append_cases, Contains-push, Contains-push_cases}
use Rattle.model.specs.Growth.{Adds}
use Rattle.model.proofs.Adding.{adds_nothing, adds_same}

module _ {K : Type 0} where
  pub adds_pushed : (y : K) (old new : List K) → new ≡ old ++ y ∷ [] → Adds (λ x. y ≡ x) old new
  adds_pushed y old new e =
      subst (λ xs. Adds (λ x. y ≡ x) old xs) (sym e)
      (λ x. (
        Contains-push_cases old y x,
        (λ h. elim h [
          | inl k ↦ Contains-append_left old (y ∷ []) x k
          | inr is ↦ subst (λ z. Contains (old ++ y ∷ []) z) is (Contains-push old y)
        ]),
      ))

  -- y is added, since Q holds
  pub adds_when : (Q : Type 0) (y : K) (old new : List K) → Q → Adds (λ x. y ≡ x) old new → Adds (λ x. Q × (y ≡ x)) old new
  adds_when Q y old new q adds = adds_same (λ x. y ≡ x) (λ x. Q × (y ≡ x)) old new (λ x. ((λ e. (q, e)), (λ h. h.1))) adds

  -- nothing is added, since Q does not hold
  pub adds_unless : (Q : Type 0) (y : K) (old new : List K) → (Q → ⊥) → new ≡ old → Adds (λ x. Q × (y ≡ x)) old new
  adds_unless Q y old new none e = subst (λ xs. Adds (λ x. Q × (y ≡ x)) old xs) (sym e) (adds_nothing (λ x. Q × (y ≡ x)) old (λ x h. none h.0))

-- a list at the end
pub adds_appended : {K E : Type 0} (r : Result Unit E) (more old new : List K) → OnOk r (new ≡ old ++ more) → OnOk r (Adds (Contains more) old new)
adds_appended (Ok u) more old new e =
    subst (λ xs. Adds (Contains more) old xs) (sym e)
    (λ x. (Contains-append_cases old more x, (λ h. elim h [ inl k ↦ Contains-append_left old more x k | inr k ↦ Contains-append_right old more x k ])))
adds_appended (Err e) more old new h = tt

-- what holds whatever a call answers
pub on_ok : {T E P : Type 0} (r : Result T E) → P → OnOk r P
on_ok (Ok x) p = p
on_ok (Err e) p = tt

-- what follows from two clauses
pub on_ok_both : {T E P Q R : Type 0} (r : Result T E) → (P → Q → R) → OnOk r P → OnOk r Q → OnOk r R
on_ok_both (Ok x) f p q = f p q
on_ok_both (Err e) f p q = tt
