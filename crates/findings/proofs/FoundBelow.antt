-- The findings that a test gives of the numbers below a bound.
use Rattle.std.proofs.Common.{◌≡◌, ◌≢◌, ◌<◌, ◌+◌, ℕ, zero, suc, Bool, true, false, cond, not, ◌&&◌, eqb, List, [], ◌∷◌, ◌++◌, Ordering, Less, inl, inr, refl, sym, ap, ◌∙◌, subst, arith, IsTrue, IsFalse, Contains, append_assoc, append-nil, add-one}
use Rattle.std.specs.List.{AllByRecursion}
use Rattle.std.specs.List.Sorted.{IsStrictlySortedBy}
use Rattle.std.proofs.lemmas.Bool.{and_parts, and_from, cases_Bool, eqb-true, eq-eqb, ne_eqb, not-true, not_from_false, both_ways, eqb-false, cases_eq}
use Rattle.std.proofs.lemmas.List.Elements.{Contains-append_left, Contains-append_right, Contains-append_cases, Contains-push, Contains-push_cases}
use Rattle.findings.specs.declared.finding.Finding.{Finding}
use Rattle.findings.specs.declared.finding.Finding.TheVariants.{LostNumber, UnmarkedInode}
use Rattle.model.specs.Layout.{Geometry, inode_count, is_number}
use Rattle.model.specs.View.{View}
use Rattle.findings.specs.Findings.{finding_cmp, IsFinding, AreFindingsOf, is_of_numbers}
use Rattle.std.proofs.lemmas.Bool.Decides.{nat_tests}
use Rattle.findings.specs.Numbers.{found_below, is_lost_number, is_unmarked_number, lost_below, unmarked_below}
use Rattle.model.proofs.SlotLemmas.{number_below}
use Rattle.findings.proofs.Sorted.{Contains-here, Contains-there, Contains-cases, Contains-none}

module _ {K : Type 0} (cmp : K → K → Ordering) where
  pub all_less : (x : K) (xs : List K) → ((y : K) → Contains xs y → cmp x y ≡ Less) → AllByRecursion (λ y. cmp x y ≡ Less) xs
  all_less x [] h = tt
  all_less x (y ∷ ys) h = (h y (Contains-here y ys), all_less x ys (λ z c. h z (Contains-there y ys z c)))

  pub less_all : (x : K) (xs : List K) → AllByRecursion (λ y. cmp x y ≡ Less) xs → (y : K) → Contains xs y → cmp x y ≡ Less
  less_all x [] h y c = absurd (Contains-none y c)
  less_all x (z ∷ zs) h y c = elim (Contains-cases z zs y c) [ inl e ↦ subst (λ q. cmp x q ≡ Less) e h.0 | inr k ↦ less_all x zs h.1 y k ]

  -- two lists in order, the second after the first
  pub sorted-append : (xs ys : List K) → IsStrictlySortedBy cmp xs → IsStrictlySortedBy cmp ys
      → ((x y : K) → Contains xs x → Contains ys y → cmp x y ≡ Less) → IsStrictlySortedBy cmp (xs ++ ys)
  unfolding IsStrictlySortedBy
  sorted-append [] ys s t h = t
  sorted-append (x ∷ xs) ys s t h = (
    all_less x (xs ++ ys) (λ y c. elim (Contains-append_cases xs ys y c) [ inl k ↦ less_all x xs s.0 y k | inr k ↦ h x y (Contains-here x xs) k ]),
    sorted-append xs ys s.1 t (λ z y c k. h z y (Contains-there x xs z c) k),
  )

  pub sorted-one : (x : K) → IsStrictlySortedBy cmp (x ∷ [])
  unfolding IsStrictlySortedBy
  sorted-one x = (tt, tt)

  pub sorted-none : IsStrictlySortedBy cmp []
  unfolding IsStrictlySortedBy
  sorted-none = tt

-- one of them
pub record IsFoundBelow {K : Type 0} (test : ℕ → Bool) (make : ℕ → K) (n : ℕ) (x : K) : Type 0 where
  pub number : ℕ
  pub below : number < n
  pub passes : IsTrue (test number)
  pub is : make number ≡ x

module _ {K : Type 0} (test : ℕ → Bool) (make : ℕ → K) where
  pub found-none : found_below test make 0 ≡ []
  unfolding found_below
  found-none = refl

  pub found-yes : (n : ℕ) → IsTrue (test n) → found_below test make (suc n) ≡ found_below test make n ++ make n ∷ []
  unfolding found_below
  found-yes n t = ap (λ b. cond b (found_below test make n ++ make n ∷ []) (found_below test make n)) t

  pub found-no : (n : ℕ) → IsFalse (test n) → found_below test make (suc n) ≡ found_below test make n
  unfolding found_below
  found-no n f = ap (λ b. cond b (found_below test make n ++ make n ∷ []) (found_below test make n)) f

  pub found_members : (n : ℕ) (x : K) → Contains (found_below test make n) x → IsFoundBelow test make n x
  unfolding found_below
  found_members zero x c = absurd (Contains-none x c)
  found_members (suc n) x c = elim (cases_Bool (test n)) [
    | inl t ↦ elim (Contains-push_cases (found_below test make n) (make n) x (subst (λ ys. Contains ys x) (found-yes n t) c)) [
      | inl k ↦ more (found_members n x k)
      | inr e ↦ record { number = n; below = omega arith; passes = t; is = e }
    ]
    | inr f ↦ more (found_members n x (subst (λ ys. Contains ys x) (found-no n f) c))
  ]
    where
      more : IsFoundBelow test make n x → IsFoundBelow test make (suc n) x
      more h = record { number = h.number; below = omega (arith, h.below); passes = h.passes; is = h.is }

  pub members_found : (n : ℕ) (i : ℕ) → i < n → IsTrue (test i) → Contains (found_below test make n) (make i)
  members_found zero i b t = absurd (omega (arith, b))
  members_found (suc n) i b t = elim (cases_Bool (test n)) [
    | inl yes' ↦ subst (λ ys. Contains ys (make i)) (sym (found-yes n yes')) (elim (cases_eq i n) [
      | inl e ↦ subst (λ k. Contains (found_below test make n ++ make n ∷ []) (make k)) (sym e) (Contains-push (found_below test make n) (make n))
      | inr d ↦ Contains-append_left (found_below test make n) (make n ∷ []) (make i) (members_found n i (omega (arith, b, d)) t)
    ])
    | inr no' ↦ subst (λ ys. Contains ys (make i)) (sym (found-no n no')) (members_found n i
        (let d : i ≢ n = (λ e. both_ways (test n) no' (subst (λ k. IsTrue (test k)) e t)) in omega (arith, b, d)) t)
  ]

  module _ (cmp : K → K → Ordering) (rises : (i j : ℕ) → i < j → cmp (make i) (make j) ≡ Less) where
    pub found_sorted : (n : ℕ) → IsStrictlySortedBy cmp (found_below test make n)
    found_sorted zero = subst (λ ys. IsStrictlySortedBy cmp ys) (sym found-none) (sorted-none cmp)
    found_sorted (suc n) = elim (cases_Bool (test n)) [
      | inl t ↦ subst (λ ys. IsStrictlySortedBy cmp ys) (sym (found-yes n t))
          (sorted-append cmp (found_below test make n) (make n ∷ []) (found_sorted n) (sorted-one cmp (make n))
          (λ x y c k. let h = found_members n x c in elim (Contains-cases (make n) [] y k) [
            | inl e ↦ subst (λ q. cmp x q ≡ Less) e (subst (λ q. cmp q (make n) ≡ Less) h.is (rises h.number n h.below))
            | inr none ↦ absurd (Contains-none y none)
          ]))
      | inr f ↦ subst (λ ys. IsStrictlySortedBy cmp ys) (sym (found-no n f)) (found_sorted n)
    ]

-- ---- the findings of the numbers

lost_rises : (i j : ℕ) → i < j → finding_cmp (LostNumber i) (LostNumber j) ≡ Less
lost_rises i j b = grind (arith, nat_tests)

unmarked_rises : (i j : ℕ) → i < j → finding_cmp (UnmarkedInode i) (UnmarkedInode j) ≡ Less
unmarked_rises i j b = grind (arith, nat_tests)

module _ (geo : Geometry) (view : View) where
  lost_is : (i : ℕ) → IsTrue (is_lost_number geo view i) → IsFinding geo view (LostNumber i)
  lost_is i t =
      let front = and_parts (is_number geo i && view.number_marked i) (eqb (view.inode i).mode 0) t in
      let parts = and_parts (is_number geo i) (view.number_marked i) front.0 in
      (parts.0, parts.1, eqb-true (view.inode i).mode 0 front.1)

  is_lost_from : (i : ℕ) → IsFinding geo view (LostNumber i) → IsTrue (is_lost_number geo view i)
  is_lost_from i h =
      and_from (is_number geo i && view.number_marked i) (eqb (view.inode i).mode 0)
      (and_from (is_number geo i) (view.number_marked i) h.0 h.1) (eq-eqb (view.inode i).mode 0 h.2)

  unmarked_is : (i : ℕ) → IsTrue (is_unmarked_number geo view i) → IsFinding geo view (UnmarkedInode i)
  unmarked_is i t =
      let front = and_parts (is_number geo i && not (view.number_marked i)) (not (eqb (view.inode i).mode 0)) t in
      let parts = and_parts (is_number geo i) (not (view.number_marked i)) front.0 in (
        parts.0,
        (λ z. eqb-false (view.inode i).mode 0 (not-true (eqb (view.inode i).mode 0) front.1) z),
        not-true (view.number_marked i) parts.1,
      )

  is_unmarked_from : (i : ℕ) → IsFinding geo view (UnmarkedInode i) → IsTrue (is_unmarked_number geo view i)
  is_unmarked_from i h =
      and_from (is_number geo i && not (view.number_marked i)) (not (eqb (view.inode i).mode 0))
      (and_from (is_number geo i) (not (view.number_marked i)) h.0 (not_from_false (view.number_marked i) h.2))
      (not_from_false (eqb (view.inode i).mode 0) (ne_eqb (view.inode i).mode 0 h.1))

  lost : List Finding
  lost = lost_below geo view (inode_count geo)

  unmarked : List Finding
  unmarked = unmarked_below geo view (inode_count geo)

  member_is : (f : Finding) → Contains (lost ++ unmarked) f → IsTrue (is_of_numbers f) × IsFinding geo view f
  unfolding lost unmarked
  member_is f c =
      elim (Contains-append_cases lost unmarked f c) [
        | inl k ↦ let h = found_members (is_lost_number geo view) LostNumber (inode_count geo) f k in
            subst (λ g. IsTrue (is_of_numbers g) × IsFinding geo view g) h.is (refl, lost_is h.number h.passes)
        | inr k ↦ let h = found_members (is_unmarked_number geo view) UnmarkedInode (inode_count geo) f k in
            subst (λ g. IsTrue (is_of_numbers g) × IsFinding geo view g) h.is (refl, unmarked_is h.number h.passes)
      ]

  is_member : (f : Finding) → IsTrue (is_of_numbers f) → IsFinding geo view f → Contains (lost ++ unmarked) f
  unfolding lost unmarked
  is_member (LostNumber i) t h =
      Contains-append_left lost unmarked (LostNumber i)
      (members_found (is_lost_number geo view) LostNumber (inode_count geo) i (number_below geo i h.0) (is_lost_from i h))
  is_member (UnmarkedInode i) t h =
      Contains-append_right lost unmarked (UnmarkedInode i)
      (members_found (is_unmarked_number geo view) UnmarkedInode (inode_count geo) i (number_below geo i h.0) (is_unmarked_from i h))
  is_member _ t h = absurd cc

  both_sorted : IsStrictlySortedBy finding_cmp (lost ++ unmarked)
  unfolding lost unmarked
  both_sorted =
      sorted-append finding_cmp lost unmarked
      (found_sorted (is_lost_number geo view) LostNumber finding_cmp lost_rises (inode_count geo))
      (found_sorted (is_unmarked_number geo view) UnmarkedInode finding_cmp unmarked_rises (inode_count geo))
      (λ x y c k.
      let h = found_members (is_lost_number geo view) LostNumber (inode_count geo) x c in
      let g = found_members (is_unmarked_number geo view) UnmarkedInode (inode_count geo) y k in
      subst (λ a. finding_cmp a y ≡ Less) h.is (subst (λ b. finding_cmp (LostNumber h.number) b ≡ Less) g.is refl))

  pub numbers_found : (fs : List Finding) → fs ≡ lost_below geo view (inode_count geo) ++ unmarked_below geo view (inode_count geo)
      → AreFindingsOf is_of_numbers geo view fs
  unfolding lost unmarked
  numbers_found fs e =
      subst (λ gs. AreFindingsOf is_of_numbers geo view gs) (sym e)
      (record { in_order = both_sorted; exactly = λ f. (member_is f, (λ h. is_member f h.0 h.1)) })

-- one more turn of a loop that adds what passes
pub found_more_yes : (front : List Finding) (test : ℕ → Bool) (make : ℕ → Finding) (n : ℕ) (old new : List Finding)
    → old ≡ front ++ found_below test make n → test n ≡ true → new ≡ old ++ make n ∷ [] → new ≡ front ++ found_below test make (n + 1)
found_more_yes front test make n old new e t f =
    f ∙ ap (λ xs. xs ++ make n ∷ []) e ∙ append_assoc front (found_below test make n) (make n ∷ [])
    ∙ ap (λ xs. front ++ xs) (sym (found-yes test make n t)) ∙ ap (λ k. front ++ found_below test make k) (sym (add-one n))

pub found_more_no : (front : List Finding) (test : ℕ → Bool) (make : ℕ → Finding) (n : ℕ) (old new : List Finding)
    → old ≡ front ++ found_below test make n → test n ≡ false → new ≡ old → new ≡ front ++ found_below test make (n + 1)
found_more_no front test make n old new e t f =
    f ∙ e ∙ ap (λ xs. front ++ xs) (sym (found-no test make n t)) ∙ ap (λ k. front ++ found_below test make k) (sym (add-one n))

pub found_none : (front : List Finding) (test : ℕ → Bool) (make : ℕ → Finding) → front ≡ front ++ found_below test make 0
unfolding found_below
found_none front test make = sym (append-nil front)
