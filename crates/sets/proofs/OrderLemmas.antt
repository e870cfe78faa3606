-- A list that was sorted, and rid of what stood in it twice.
use Rattle.std.proofs.Common.{◌≡◌, ◌↔◌, Bool, true, List, Ordering, Less, Equal, Greater, refl, sym, ◌∙◌, subst, Contains, IsSorted, IsPermutation}
use Rattle.std.specs.Cmp.{IsTotalOrder, IsEquivalence}
use Rattle.std.specs.List.{dedup}
use Rattle.std.specs.List.Sorted.{IsStrictlySortedBy}
use Rattle.std.specs.Ordering.{eq_by_cmp, is_eq}
use Rattle.std.proofs.lemmas.List.Kept.{IsStrictlySortedBy-dedup, Contains-dedup, Contains-from_dedup}
use Rattle.std.proofs.lemmas.List.Sorted.{Contains-permutation, IsPermutation-sym}
use Rattle.sets.specs.Ordered.{IsExact}

equal_of : (r : Ordering) → is_eq r ≡ true → r ≡ Equal
equal_of Equal t = refl
equal_of Less t = cc
equal_of Greater t = cc

module _ {K : Type 0} (cmp : K → K → Ordering) (o : IsTotalOrder cmp) (eq : K → K → Bool) (ties : (x y : K) → eq x y ≡ eq_by_cmp cmp x y) where
  pub strictly : (xs ys : List K) → IsSorted cmp xs → ys ≡ dedup eq xs → IsStrictlySortedBy cmp ys
  strictly xs ys s e = subst (λ zs. IsStrictlySortedBy cmp zs) (sym e) (IsStrictlySortedBy-dedup {R = cmp} o {E = eq} ties xs s)

  is_equal : (x y : K) → eq x y ≡ true → cmp x y ≡ Equal
  is_equal x y t = equal_of (cmp x y) (sym (ties x y) ∙ t)

  pub same_members : IsEquivalence eq → IsExact cmp → (items xs ys : List K) → IsPermutation items xs → ys ≡ dedup eq xs → (x : K) → Contains ys x ↔ Contains items x
  same_members laws exact items xs ys p e x = (
    (λ h. Contains-permutation xs items x (IsPermutation-sym items xs p) (Contains-from_dedup eq xs x (subst (λ zs. Contains zs x) e h))),
    (λ h. subst (λ zs. Contains zs x) (sym e) (Contains-dedup laws (λ a b t. exact a b (is_equal a b t)) xs x (Contains-permutation items xs x p h))),
  )
