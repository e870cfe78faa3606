-- What stands in the stacks once a number is pushed or popped.
use Rattle.std.proofs.Common.{◌≡◌, ℕ, zero, suc, ◌+◌, ◌-◌, ◌<◌, ◌≤◌, ◌^◌, false, List, [], ◌∷◌, ◌++◌, ◌⊎◌, inl, inr, length, eqb, refl, sym, ap, ◌∙◌, subst, arith, Contains, slice_set, slice_index_or, ne_eqb, eqb-true, eq-eqb, if◌then◌else◌, length-append, get_or-set_same, get_or-set_other}
use Rattle.std.specs.List.{IsDistinct, AllByRecursion}
use Rattle.std.proofs.lemmas.List.{length-set, get_or_append_left}
use Rattle.std.proofs.lemmas.Bool.{cases_eq, cond-true, cond-false}
use Rattle.std.proofs.lemmas.Map.Steps.{length-le_from_distinct_below}
use Rattle.std.proofs.lemmas.Map.Views.{Contains-from_any}
use Rattle.lists.specs.Stacks.{Links, walk, stack_at, IsWalk, AreDistinct, AreStacks}

-- ---- members

pub contains_head : (x : ℕ) (xs : List ℕ) → Contains (x ∷ xs) x
contains_head x xs = (0, omega arith, refl)

pub contains_tail : (x y : ℕ) (xs : List ℕ) → Contains xs y → Contains (x ∷ xs) y
contains_tail x y xs (k, l, e) = (suc k, omega (arith, l), e)

pub contains_cases : (x y : ℕ) (xs : List ℕ) → Contains (x ∷ xs) y → (x ≡ y) ⊎ Contains xs y
contains_cases x y xs (zero, l, e) = inl e
contains_cases x y xs (suc k, l, e) = inr (k, omega (arith, l), e)

pub contains_none : (y : ℕ) → Contains [] y → ⊥
contains_none y (k, l, e) = omega (arith, l)

-- ---- a walk meets few numbers

walk_below : (below : List ℕ) (link : ℕ) (ns : List ℕ) → IsWalk below link ns → (n : ℕ) → Contains ns n → n < length below
walk_below below link [] w n m = absurd (contains_none n m)
walk_below below link (x ∷ ns) w n m = elim (contains_cases x n ns m) [
  | inl e ↦ subst (λ y. y < length below) e w.1
  | inr there ↦ walk_below below (slice_index_or below x 0) ns w.2 n there
]

other_than : (x : ℕ) (ns : List ℕ) → (Contains ns x → ⊥) → AllByRecursion (λ y. eqb x y ≡ false) ns
other_than x [] d = tt
other_than x (y ∷ ns) d = (ne_eqb x y (λ e. d (subst (λ z. Contains (y ∷ ns) z) (sym e) (contains_head y ns))), other_than x ns (λ m. d (contains_tail y x ns m)))

distinct : (ns : List ℕ) → AreDistinct ns → IsDistinct eqb ns
unfolding IsDistinct
distinct [] d = tt
distinct (n ∷ ns) d = (other_than n ns d.0, distinct ns d.1)

few : (below : List ℕ) (link : ℕ) (ns : List ℕ) → IsWalk below link ns → AreDistinct ns → length ns ≤ length below
few below link ns w d = length-le_from_distinct_below ns (length below) (distinct ns d) (λ q t. walk_below below link ns w q (Contains-from_any (λ x y e. eqb-true x y e) q ns t))

walked : (below : List ℕ) (steps link : ℕ) (ns : List ℕ) → IsWalk below link ns → length ns ≤ steps → walk below steps link ≡ ns
walked below zero link [] w l = refl
walked below zero link (n ∷ ns) w l = absurd (omega (arith, l))
walked below (suc steps) link [] w l = ap (walk below (suc steps)) w
walked below (suc steps) link (n ∷ ns) w l =
    ap (walk below (suc steps)) w.0 ∙ ap (λ ms. n ∷ ms) (walked below steps (slice_index_or below n 0) ns w.2 (omega (arith, l)))

-- ---- stacks by their numbers

pub record AreNow (links : Links) (stacks : ℕ → List ℕ) : Type 0 where
  pub walks : (k : ℕ) → IsWalk links.below (slice_index_or links.tops k 0) (stacks k)
  pub distinct : (k : ℕ) → AreDistinct (stacks k)
  pub apart : (k l n : ℕ) → Contains (stacks k) n → Contains (stacks l) n → k ≡ l
  pub few : length links.below < 2 ^ 32

pub stack_is : (links : Links) (stacks : ℕ → List ℕ) → AreNow links stacks → (k : ℕ) → stack_at links k ≡ stacks k
stack_is links stacks now k = walked links.below (length links.below) (slice_index_or links.tops k 0) (stacks k) (now.walks k) (few links.below (slice_index_or links.tops k 0) (stacks k) (now.walks k) (now.distinct k))

pub are_stacks : (links : Links) (stacks : ℕ → List ℕ) → AreNow links stacks → AreStacks links
are_stacks links stacks now = record {
  walks = λ k. subst (IsWalk links.below (slice_index_or links.tops k 0)) (sym (is k)) (now.walks k);
  distinct = λ k. subst AreDistinct (sym (is k)) (now.distinct k);
  apart = λ k l n a b. now.apart k l n (subst (λ ns. Contains ns n) (is k) a) (subst (λ ns. Contains ns n) (is l) b);
  few = now.few;
}
  where
    is : (k : ℕ) → stack_at links k ≡ stacks k
    is = stack_is links stacks now

-- ---- writes beside a walk

beside : (below : List ℕ) (link : ℕ) (ns : List ℕ) (n v : ℕ) → IsWalk below link ns → (Contains ns n → ⊥) → IsWalk (slice_set below n v) link ns
beside below link [] n v w d = w
beside below link (x ∷ ns) n v w d = (
  w.0,
  (let l = length-set below n v in let low = w.1 in omega (arith, l, low)),
  subst (λ next. IsWalk (slice_set below n v) next ns) (sym (get_or-set_other below n x v 0 (λ e. d (subst (λ y. Contains (x ∷ ns) y) e (contains_head x ns)))))
      (beside below (slice_index_or below x 0) ns n v w.2 (λ m. d (contains_tail x n ns m))),
)

longer : (below more : List ℕ) (link : ℕ) (ns : List ℕ) → IsWalk below link ns → IsWalk (below ++ more) link ns
longer below more link [] w = w
longer below more link (x ∷ ns) w = (
  w.0,
  (let l = length-append below more in let low = w.1 in omega (arith, l, low)),
  subst (λ next. IsWalk (below ++ more) next ns) (sym (get_or_append_left below more 0 x w.1)) (longer below more (slice_index_or below x 0) ns w.2),
)

-- ---- a push

-- the stacks with these numbers in one of them
abbrev pub with_stack : (ℕ → List ℕ) → ℕ → List ℕ → ℕ → List ℕ
with_stack stacks s ns k = if eqb k s then ns else stacks k

pub at_stack : (stacks : ℕ → List ℕ) (s : ℕ) (ns : List ℕ) → with_stack stacks s ns s ≡ ns
at_stack stacks s ns = cond-true (eqb s s) ns (stacks s) (eq-eqb s s refl)

pub at_other : (stacks : ℕ → List ℕ) (s : ℕ) (ns : List ℕ) (k : ℕ) → (k ≡ s → ⊥) → with_stack stacks s ns k ≡ stacks k
at_other stacks s ns k d = cond-false (eqb k s) ns (stacks k) (ne_eqb k s d)

-- what is shown of the one stack and of the others holds of each
each : (stacks : ℕ → List ℕ) (s : ℕ) (ns : List ℕ) (P : ℕ → List ℕ → Type 0) → P s ns → ((k : ℕ) → (k ≡ s → ⊥) → P k (stacks k)) → (k : ℕ) → P k (with_stack stacks s ns k)
each stacks s ns P here there k = elim (cases_eq k s) [
  | inl e ↦ subst (λ j. P j (with_stack stacks s ns j)) (sym e) (subst (P s) (sym (at_stack stacks s ns)) here)
  | inr d ↦ subst (P k) (sym (at_other stacks s ns k d)) (there k d)
]

-- a member of one of them
member : (stacks : ℕ → List ℕ) (s : ℕ) (ns : List ℕ) (k n : ℕ) → Contains (with_stack stacks s ns k) n → ((k ≡ s) × Contains ns n) ⊎ ((k ≡ s → ⊥) × Contains (stacks k) n)
member stacks s ns k n m = elim (cases_eq k s) [
  | inl e ↦ inl (e, subst (λ l. Contains l n) (ap (with_stack stacks s ns) e ∙ at_stack stacks s ns) m)
  | inr d ↦ inr (d, subst (λ l. Contains l n) (at_other stacks s ns k d) m)
]

module _ (links : Links) (are : AreStacks links) (s : ℕ) (there : s < length links.tops) where
  abbrev pub old : ℕ → List ℕ
  old = stack_at links

  module _ (n : ℕ) (low : n < length links.below) (new : (k : ℕ) → Contains (old k) n → ⊥) where
    abbrev pushed : Links
    pushed = record { tops = slice_set links.tops s (n + 1); below = slice_set links.below n (slice_index_or links.tops s 0) }

    pub push_now : AreNow (record { tops = slice_set links.tops s (n + 1); below = slice_set links.below n (slice_index_or links.tops s 0) }) (with_stack old s (n ∷ old s))
    push_now = record {
      walks = each old s (n ∷ old s) (λ k ns. IsWalk pushed.below (slice_index_or pushed.tops k 0) ns) (
        (get_or-set_same links.tops s (n + 1) 0 there ∙ (let e : n + 1 ≡ suc n = omega arith in e)),
        (let l = length-set links.below n (slice_index_or links.tops s 0) in omega (arith, l, low)),
        subst (λ next. IsWalk pushed.below next (old s)) (sym (get_or-set_same links.below n (slice_index_or links.tops s 0) 0 low))
            (beside links.below (slice_index_or links.tops s 0) (old s) n (slice_index_or links.tops s 0) (are.walks s) (new s)),
      )
          (λ k d. subst (λ link. IsWalk pushed.below link (old k)) (sym (get_or-set_other links.tops s k (n + 1) 0 d))
          (beside links.below (slice_index_or links.tops k 0) (old k) n (slice_index_or links.tops s 0) (are.walks k) (new k)));
      distinct = each old s (n ∷ old s) (λ k ns. AreDistinct ns) (new s, are.distinct s) (λ k d. are.distinct k);
      apart = λ k l m a b. elim (member old s (n ∷ old s) k m a) [
        | inl (e, i) ↦ elim (member old s (n ∷ old s) l m b) [
          | inl (f, j) ↦ e ∙ sym f
          | inr (f, j) ↦ elim (contains_cases n m (old s) i) [ inl same ↦ absurd (new l (subst (Contains (old l)) (sym same) j)) | inr older ↦ e ∙ are.apart s l m older j ]
        ]
        | inr (e, i) ↦ elim (member old s (n ∷ old s) l m b) [
          | inl (f, j) ↦ elim (contains_cases n m (old s) j) [ inl same ↦ absurd (new k (subst (Contains (old k)) (sym same) i)) | inr older ↦ are.apart k s m i older ∙ sym f ]
          | inr (f, j) ↦ are.apart k l m i j
        ]
      ];
      few = (let l = length-set links.below n (slice_index_or links.tops s 0) in let f = are.few in omega (arith, l, f));
    }

  -- ---- a pop

  module _ (n : ℕ) (ns : List ℕ) (is : old s ≡ n ∷ ns) where
    rests : IsWalk links.below (slice_index_or links.below n 0) ns
    rests = (subst (IsWalk links.below (slice_index_or links.tops s 0)) is (are.walks s)).2

    within : (m : ℕ) → Contains ns m → Contains (old s) m
    within m i = subst (λ l. Contains l m) (sym is) (contains_tail n m ns i)

    pub pop_now : AreNow (record { tops = slice_set links.tops s (slice_index_or links.below n 0); below = links.below }) (with_stack old s ns)
    pop_now = record {
      walks = each old s ns (λ k ms. IsWalk links.below (slice_index_or (slice_set links.tops s (slice_index_or links.below n 0)) k 0) ms)
          (subst (λ link. IsWalk links.below link ns) (sym (get_or-set_same links.tops s (slice_index_or links.below n 0) 0 there)) rests)
          (λ k d. subst (λ link. IsWalk links.below link (old k)) (sym (get_or-set_other links.tops s k (slice_index_or links.below n 0) 0 d)) (are.walks k));
      distinct = each old s ns (λ k ms. AreDistinct ms) (subst AreDistinct is (are.distinct s)).1 (λ k d. are.distinct k);
      apart = λ k l m a b. are.apart k l m (before k m a) (before l m b);
      few = are.few;
    }
      where
        before : (k m : ℕ) → Contains (with_stack old s ns k) m → Contains (old k) m
        before k m a = elim (member old s ns k m a) [ inl (e, i) ↦ subst (λ j. Contains (old j) m) (sym e) (within m i) | inr (e, i) ↦ i ]

    pub popped_gone : (k : ℕ) → Contains (with_stack old s ns k) n → ⊥
    popped_gone k m = elim (member old s ns k n m) [
      | inl (e, i) ↦ (subst AreDistinct is (are.distinct s)).0 i
      | inr (d, i) ↦ d (are.apart k s n i (subst (λ l. Contains l n) (sym is) (contains_head n ns)))
    ]

-- what a link with a number leads to
pub top_of : (below : List ℕ) (n : ℕ) (ms : List ℕ) → IsWalk below (suc n) ms → (ns : List ℕ) × (ms ≡ n ∷ ns) × (n < length below)
top_of below n [] w = absurd (omega (arith, w))
top_of below n (m ∷ ns) w = let e : m ≡ n = omega (arith, w.0) in (ns, ap (λ x. x ∷ ns) e, subst (λ x. x < length below) e w.1)

pub none_of : (below : List ℕ) (ms : List ℕ) → IsWalk below 0 ms → ms ≡ []
none_of below [] w = refl
none_of below (m ∷ ns) w = absurd (let e = w.0 in omega (arith, e))

-- ---- more room

pub longer_now : (links : Links) (more : List ℕ) → AreStacks links → length (links.below ++ more) < 2 ^ 32 → AreNow (record { tops = links.tops; below = links.below ++ more }) (stack_at links)
longer_now links more are small = record {
  walks = λ k. longer links.below more (slice_index_or links.tops k 0) (stack_at links k) (are.walks k);
  distinct = are.distinct;
  apart = are.apart;
  few = small;
}

-- ---- the clauses of a push and of a pop, from the fields

module _ (links : Links) (are : AreStacks links) (s : ℕ) (there : s < length links.tops) where
  module _ (n : ℕ) (low : n < length links.below) (new : (k : ℕ) → Contains (stack_at links k) n → ⊥) (v : ℕ) (is : v ≡ slice_index_or links.tops s 0) where
    pub push_fields : AreNow (record { tops = slice_set links.tops s (n + 1); below = slice_set links.below n v }) (with_stack (stack_at links) s (n ∷ stack_at links s))
    push_fields =
        subst (λ x. AreNow (record { tops = slice_set links.tops s (n + 1); below = slice_set links.below n x }) (with_stack (stack_at links) s (n ∷ stack_at links s)))
        (sym is) (push_now links are s there n low new)

  module _ (top v : ℕ) (some : top ≡ 0 → ⊥) (is : top ≡ slice_index_or links.tops s 0) where
    abbrev pub n : ℕ
    n = top - 1

    pub parts : (ns : List ℕ) × (stack_at links s ≡ n ∷ ns) × (n < length links.below)
    parts = top_of links.below n (stack_at links s) (subst (λ link. IsWalk links.below link (stack_at links s)) (let e : slice_index_or links.tops s 0 ≡ suc n = omega (arith, some, is) in e) (are.walks s))

    pub pop_low : top - 1 < length links.below
    pop_low = parts.2

    module _ (below_is : v ≡ slice_index_or links.below (top - 1) 0) where
      pub pop_fields : AreNow (record { tops = slice_set links.tops s v; below = links.below }) (with_stack (stack_at links) s parts.0)
      pop_fields =
          subst (λ x. AreNow (record { tops = slice_set links.tops s x; below = links.below }) (with_stack (stack_at links) s parts.0)) (sym below_is)
          (pop_now links are s there n parts.0 parts.1)

      abbrev now : Links
      now = record { tops = slice_set links.tops s v; below = links.below }

      is_now : (k : ℕ) → stack_at now k ≡ with_stack (stack_at links) s parts.0 k
      is_now = stack_is now (with_stack (stack_at links) s parts.0) pop_fields

      pub pop_stack : stack_at links s ≡ (top - 1) ∷ stack_at (record { tops = slice_set links.tops s v; below = links.below }) s
      pop_stack = parts.1 ∙ ap (λ ns. n ∷ ns) (sym (is_now s ∙ at_stack (stack_at links) s parts.0))

      pub pop_others : (k : ℕ) → (k ≡ s → ⊥) → stack_at (record { tops = slice_set links.tops s v; below = links.below }) k ≡ stack_at links k
      pop_others k d = is_now k ∙ at_other (stack_at links) s parts.0 k d

      pub pop_gone : (k : ℕ) → Contains (stack_at (record { tops = slice_set links.tops s v; below = links.below }) k) (top - 1) → ⊥
      pop_gone k m = popped_gone links are s there n parts.0 parts.1 k (subst (λ ns. Contains ns n) (is_now k) m)
