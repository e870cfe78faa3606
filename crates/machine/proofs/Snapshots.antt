-- What stands with a number once a snapshot began or ended.
use Rattle.std.proofs.Common.{◌≡◌, ◌≤◌, ℕ, zero, suc, not, leb, eqb, List, [], ◌∷◌, length, map, cond, ◌⊎◌, inl, inr, refl, sym, ap, ◌∙◌, subst, arith, IsTrue, IsFalse, Some, None, eqb-true, eq-eqb, ne_eqb, false}
use Rattle.std.proofs.lemmas.Bool.{cases_eq, cases_Bool, leb-false, cond-true, cond-false}
use Rattle.model.specs.View.{View}
use Rattle.machine.specs.Standing.{Standing, Snapshots, image_at, latest_at, others, begun, ended, too_many, FallBelow, AreNumbered}
use Rattle.machine.specs.State.{keeps}
use Rattle.machine.proofs.Bools.{or_left, or_right, neither}
use Rattle.machine.proofs.Tests.{not_some}

-- what falls from below a number falls from below a higher one
fall_higher : (m n : ℕ) (ns : List ℕ) → m ≤ n → FallBelow m ns → FallBelow n ns
fall_higher m n [] le f = tt
fall_higher m n (k ∷ ns) le f = (omega (arith, le, f.0), f.1)

module _ {X : Type 0} where
  same_image : (v w : X) → Some v ≡ Some w → v ≡ w
  same_image v w e = cc

  -- ---- a snapshot begins

  pub at_here : (n : ℕ) (image : X) (xs : List (Standing X)) → image_at (record { number = n; image = image } ∷ xs) n ≡ Some image
  at_here n image xs = cond-true (eqb n n) (Some image) (image_at xs n) (eq-eqb n n refl)

  pub at_other : (n s : ℕ) (image : X) (xs : List (Standing X)) → (n ≡ s → ⊥) → image_at (record { number = n; image = image } ∷ xs) s ≡ image_at xs s
  at_other n s image xs differs = cond-false (eqb n s) (Some image) (image_at xs s) (ne_eqb n s differs)

  -- ---- a snapshot ends

  dropped : (s : ℕ) (x : Standing X) (xs : List (Standing X)) → IsTrue (eqb x.number s) → others (x ∷ xs) s ≡ others xs s
  dropped s x xs same = cond-false (not (eqb x.number s)) (x ∷ others xs s) (others xs s) (ap not same)

  stays : (s : ℕ) (x : Standing X) (xs : List (Standing X)) → eqb x.number s ≡ false → others (x ∷ xs) s ≡ x ∷ others xs s
  stays s x xs differs = cond-true (not (eqb x.number s)) (x ∷ others xs s) (others xs s) (ap not differs)

  pub at_others : (s t : ℕ) → (s ≡ t → ⊥) → (xs : List (Standing X)) → image_at (others xs t) s ≡ image_at xs s
  at_others s t differs [] = refl
  at_others s t differs (x ∷ xs) = elim (cases_Bool (eqb x.number t)) [
    | inl gone ↦
        ap (λ ys. image_at ys s) (dropped t x xs gone) ∙ at_others s t differs xs
        ∙ sym (cond-false (eqb x.number s) (Some x.image) (image_at xs s) (ne_eqb x.number s (λ here. differs (sym here ∙ eqb-true x.number t gone))))
    | inr left ↦ ap (λ ys. image_at ys s) (stays t x xs left) ∙ ap (λ o. cond (eqb x.number s) (Some x.image) o) (at_others s t differs xs)
  ]

  pub at_gone : (s : ℕ) (xs : List (Standing X)) → image_at (others xs s) s ≡ None
  at_gone s [] = refl
  at_gone s (x ∷ xs) = elim (cases_Bool (eqb x.number s)) [
    | inl gone ↦ ap (λ ys. image_at ys s) (dropped s x xs gone) ∙ at_gone s xs
    | inr left ↦ ap (λ ys. image_at ys s) (stays s x xs left) ∙ cond-false (eqb x.number s) (Some x.image) (image_at (others xs s) s) left ∙ at_gone s xs
  ]

  -- what stands after an end stood before
  pub at_left : (s t : ℕ) (image : X) (xs : List (Standing X)) → image_at (others xs t) s ≡ Some image → image_at xs s ≡ Some image
  at_left s t image xs e = elim (cases_eq s t) [
    | inl same ↦ not_some image (sym e ∙ ap (image_at (others xs t)) same ∙ at_gone t xs)
    | inr differs ↦ sym (at_others s t differs xs) ∙ e
  ]

  -- what does not stand does not after an end
  pub none_left : (s t : ℕ) (xs : List (Standing X)) → image_at xs s ≡ None → image_at (others xs t) s ≡ None
  none_left s t xs e = elim (cases_eq s t) [
    | inl same ↦ ap (image_at (others xs t)) same ∙ at_gone t xs
    | inr differs ↦ at_others s t differs xs ∙ e
  ]

  -- ---- that of the latest freeze

  pub latest_number : (xs : List (Standing X)) (n : ℕ) (image : X) → latest_at xs n ≡ Some image → (s : ℕ) × (n ≡ suc s) × (image_at xs s ≡ Some image)
  latest_number xs zero image e = not_some image (sym e)
  latest_number xs (suc s) image e = (s, refl, e)

  pub latest_ended : (xs : List (Standing X)) (n s : ℕ) → (latest_at (others xs s) n ≡ latest_at xs n) ⊎ (latest_at (others xs s) n ≡ None)
  latest_ended xs zero s = inl refl
  latest_ended xs (suc n) s = elim (cases_eq n s) [
    | inl same ↦ inr (ap (image_at (others xs s)) same ∙ at_gone s xs)
    | inr differs ↦ inl (at_others n s differs xs)
  ]

  -- ---- the numbers

  abbrev numbers : List (Standing X) → List ℕ
  numbers xs = map (λ (x : Standing X). x.number) xs

  fall_others : (n s : ℕ) (xs : List (Standing X)) → FallBelow n (numbers xs) → FallBelow n (numbers (others xs s))
  fall_others n s [] f = tt
  fall_others n s (x ∷ xs) f = elim (cases_Bool (eqb x.number s)) [
    | inl gone ↦ subst (λ ys. FallBelow n (numbers ys)) (sym (dropped s x xs gone)) (fall_higher x.number n (numbers (others xs s)) (omega (arith, f.0)) (fall_others x.number s xs f.1))
    | inr left ↦ subst (λ ys. FallBelow n (numbers ys)) (sym (stays s x xs left)) (f.0, fall_others x.number s xs f.1)
  ]

  few_others : (s : ℕ) (xs : List (Standing X)) → length (others xs s) ≤ length xs
  few_others s [] = omega arith
  few_others s (x ∷ xs) = elim (cases_Bool (eqb x.number s)) [
    | inl gone ↦ subst (λ ys. length ys ≤ length (x ∷ xs)) (sym (dropped s x xs gone)) (omega (arith, few_others s xs))
    | inr left ↦ subst (λ ys. length ys ≤ length (x ∷ xs)) (sym (stays s x xs left)) (omega (arith, few_others s xs))
  ]

  pub numbered_begun : (snapshots : Snapshots X) (image : X) → IsFalse (too_many snapshots) → AreNumbered snapshots → AreNumbered (begun snapshots image)
  numbered_begun snapshots image room n = record {
    fall = (omega arith, n.fall);
    few = let few = leb-false 4 (length snapshots.standing) (neither (leb 4 (length snapshots.standing)) _ room).0 in omega (arith, few);
  }

  pub numbered_ended : (snapshots : Snapshots X) (s : ℕ) → AreNumbered snapshots → AreNumbered (ended snapshots s)
  numbered_ended snapshots s n = record { fall = fall_others snapshots.freezes s snapshots.standing n.fall; few = omega (arith, n.few, few_others s snapshots.standing) }

-- ---- what is marked in one of them

pub kept_where : (xs : List (Standing View)) (s a : ℕ) (image : View) → image_at xs s ≡ Some image → IsTrue (image.block_marked a) → IsTrue (keeps xs a)
kept_where [] s a image e m = not_some image (sym e)
kept_where (x ∷ xs) s a image e m = elim (cases_Bool (eqb x.number s)) [
  | inl here ↦ or_left (x.image.block_marked a) (keeps xs a) (ap (λ (v : View). v.block_marked a) (same_image x.image image (sym (cond-true (eqb x.number s) (Some x.image) (image_at xs s) here) ∙ e)) ∙ m)
  | inr there ↦ or_right (x.image.block_marked a) (keeps xs a) (kept_where xs s a image (sym (cond-false (eqb x.number s) (Some x.image) (image_at xs s) there) ∙ e) m)
]
