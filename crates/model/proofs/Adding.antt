-- How lists and sets grow by what is added to them.
use Rattle.std.proofs.Common.{◌≡◌, ◌<◌, ◌+◌, ℕ, Bool, true, false, cond, ◌||◌, List, [], ◌∷◌, ◌++◌, Option, Some, Result, Ok, Err, IfOk, Ordering, ◌⊎◌, inl, inr, ◌↔◌, refl, sym, ap, ◌∙◌, subst, arith, Contains, IsTrue}
use Rattle.std.specs.Cmp.{IsTotalOrder, eq_by_cmp_equiv}
use Rattle.std.specs.Ordering.{eq_by_cmp}
use Rattle.std.specs.List.{list_any}
use Rattle.std.specs.BTreeSet.{BTreeSet, Updates, contains}
use Rattle.std.specs.Set.{IsUnion}
use Rattle.std.proofs.lemmas.Bool.{cases_Bool, cases_eq}
use Rattle.std.proofs.lemmas.Option.{same_Some}
use Rattle.std.proofs.lemmas.List.Elements.{Contains-append_left, Contains-push, Contains-push_cases}
use Rattle.std.proofs.lemmas.Map.Lookups.{CmpEqualImpliesEq}
use Rattle.std.proofs.lemmas.Map.Views.{btree_set_contains_iff, Contains-from_any, list_any-from_Contains, tells_apart}
use Rattle.model.specs.Growth.{Adds}

pub or_parts : (a b : Bool) → IsTrue (a || b) → IsTrue a ⊎ IsTrue b
or_parts true b t = inl refl
or_parts false b t = inr t

pub or_left : (a b : Bool) → IsTrue a → IsTrue (a || b)
or_left a b t = ap (λ c. c || b) t

pub or_right : (a b : Bool) → IsTrue b → IsTrue (a || b)
or_right true b t = refl
or_right false b t = t

-- P holds of x at a number below n
abbrev pub AtBelow : {K : Type 0} → (ℕ → K → Type 0) → ℕ → K → Type 0
AtBelow P n x = (k : ℕ) × (k < n) × P k x

module _ {K : Type 0} where
  pub adds_nothing : (P : K → Type 0) (old : List K) → ((x : K) → P x → ⊥) → Adds P old old
  adds_nothing P old none x = ((λ c. inl c), (λ h. elim h [ inl c ↦ c | inr p ↦ absurd (none x p) ]))

  pub adds_same : (P Q : K → Type 0) (old new : List K) → ((x : K) → P x ↔ Q x) → Adds P old new → Adds Q old new
  adds_same P Q old new same adds x = (
    (λ c. elim ((adds x).0 c) [ inl k ↦ inl k | inr p ↦ inr ((same x).0 p) ]),
    (λ h. elim h [ inl k ↦ (adds x).1 (inl k) | inr q ↦ (adds x).1 (inr ((same x).1 q)) ]),
  )

  pub adds_both : (P Q : K → Type 0) (old mid new : List K) → Adds P old mid → Adds Q mid new → Adds (λ x. P x ⊎ Q x) old new
  adds_both P Q old mid new first then x = (
    (λ c. elim ((then x).0 c) [
      | inl k ↦ elim ((first x).0 k) [ inl o ↦ inl o | inr p ↦ inr (inl p) ]
      | inr q ↦ inr (inr q)
    ]),
    (λ h. elim h [
      | inl o ↦ (then x).1 (inl ((first x).1 (inl o)))
      | inr e ↦ elim e [ inl p ↦ (then x).1 (inl ((first x).1 (inr p))) | inr q ↦ (then x).1 (inr q) ]
    ]),
  )

  pub adds_below_none : (P : ℕ → K → Type 0) (old : List K) → Adds (AtBelow P 0) old old
  adds_below_none P old = adds_nothing (AtBelow P 0) old (λ x h. omega (arith, h.1))

  below_more : (P : ℕ → K → Type 0) (n : ℕ) (x : K) → (AtBelow P n x ⊎ P n x) ↔ AtBelow P (n + 1) x
  below_more P n x = (
    (λ h. elim h [ inl b ↦ (b.0, omega (arith, b.1), b.2) | inr p ↦ (n, omega arith, p) ]),
    (λ b. elim (cases_eq b.0 n) [
      | inl e ↦ inr (subst (λ k. P k x) e b.2)
      | inr differs ↦ inl (b.0, omega (arith, b.1, differs), b.2)
    ]),
  )

  pub adds_below_more : (P : ℕ → K → Type 0) (n : ℕ) (old mid new : List K) → Adds (AtBelow P n) old mid → Adds (P n) mid new → Adds (AtBelow P (n + 1)) old new
  adds_below_more P n old mid new first then =
      adds_same (λ x. AtBelow P n x ⊎ P n x) (AtBelow P (n + 1)) old new (below_more P n) (adds_both (AtBelow P n) (P n) old mid new first then)

  -- the element of an option at the end
  push_is : (xs : List K) (y x : K) → Contains (xs ++ y ∷ []) x ↔ (Contains xs x ⊎ (y ≡ x))
  push_is xs y x = (
    Contains-push_cases xs y x,
    (λ h. elim h [
      | inl k ↦ Contains-append_left xs (y ∷ []) x k
      | inr e ↦ subst (λ z. Contains (xs ++ y ∷ []) z) e (Contains-push xs y)
    ]),
  )

  pub adds_element : (o : Option K) (old new : List K) (y : K) → o ≡ Some y → new ≡ old ++ y ∷ [] → Adds (λ x. o ≡ Some x) old new
  adds_element o old new y is e =
      subst (λ xs. Adds (λ x. o ≡ Some x) old xs) (sym e)
      (adds_same (λ x. y ≡ x) (λ x. o ≡ Some x) old (old ++ y ∷ []) (λ x. ((λ f. is ∙ ap Some f), (λ f. same_Some y x (sym is ∙ f)))) (push_is old y))

  pub adds_no_element : (o : Option K) (old new : List K) → ((x : K) → o ≡ Some x → ⊥) → new ≡ old → Adds (λ x. o ≡ Some x) old new
  adds_no_element o old new none e = subst (λ xs. Adds (λ x. o ≡ Some x) old xs) (sym e) (adds_nothing (λ x. o ≡ Some x) old none)

module _ {K : Type 0} {cmp : K → K → Ordering} (o : IsTotalOrder cmp) (exact : CmpEqualImpliesEq cmp) where
  -- a key that is put in
  pub adds_insert : (s n : BTreeSet K) (key : K) → Updates cmp s n key true → Adds (λ x. key ≡ x) s.keys n.keys
  adds_insert s n key updates x = (
    (λ c. elim (cases_Bool (eq_by_cmp cmp key x)) [
      | inl t ↦ inr (tells_apart exact key x t)
      | inr f ↦ inl ((btree_set_contains_iff o exact s x).0 (sym (updates.2 x f) ∙ (btree_set_contains_iff o exact n x).1 c))
    ]),
    (λ h. elim h [
      | inl k ↦ (btree_set_contains_iff o exact n x).0 (updates.0 x ∙ there x ((btree_set_contains_iff o exact s x).1 k))
      | inr e ↦ subst (λ z. Contains n.keys z) e ((btree_set_contains_iff o exact n key).0 updates.1)
    ]),
  )
    where
      there : (x : K) → contains cmp s x ≡ true → cond (eq_by_cmp cmp key x) true (contains cmp s x) ≡ true
      there x h = elim (cases_Bool (eq_by_cmp cmp key x)) [
        | inl t ↦ ap (λ b. cond b true (contains cmp s x)) t
        | inr f ↦ ap (λ b. cond b true (contains cmp s x)) f ∙ h
      ]

  -- the keys of another set
  pub adds_union : (xs ys zs : List K) → IsUnion (eq_by_cmp cmp) xs ys zs → Adds (Contains ys) xs zs
  adds_union xs ys zs union x = (
    (λ c. elim (cases_Bool (list_any (eq_by_cmp cmp x) xs)) [
      | inl t ↦ inl (Contains-from_any (tells_apart exact) x xs t)
      | inr f ↦ inr (Contains-from_any (tells_apart exact) x ys
          (ap (λ b. b || list_any (eq_by_cmp cmp x) ys) (sym f) ∙ sym (union x) ∙ list_any-from_Contains (eq_by_cmp_equiv o) x zs c))
    ]),
    (λ h. elim h [
      | inl k ↦ Contains-from_any (tells_apart exact) x zs (union x ∙ or_left (list_any (eq_by_cmp cmp x) xs) (list_any (eq_by_cmp cmp x) ys) (list_any-from_Contains (eq_by_cmp_equiv o) x xs k))
      | inr k ↦ Contains-from_any (tells_apart exact) x zs (union x ∙ or_right (list_any (eq_by_cmp cmp x) xs) (list_any (eq_by_cmp cmp x) ys) (list_any-from_Contains (eq_by_cmp_equiv o) x ys k))
    ]),
  )

-- what follows from two clauses at `Ok`
pub IfOk-both : {X E : Type 0} (r : Result X E) (P Q R : X → Type 0) → ((x : X) → P x → Q x → R x) → IfOk r P → IfOk r Q → IfOk r R
IfOk-both (Ok x) P Q R f p q = f x p q
IfOk-both (Err e) P Q R f p q = tt
