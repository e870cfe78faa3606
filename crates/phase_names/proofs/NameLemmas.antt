-- Names in an ordered set, where its keys stand for them.
use Rattle.std.proofs.Common.{◌≡◌, ◌||◌, Bool, true, false, not, List, [], ◌∷◌, map, ◌⊎◌, inl, inr, ◌↔◌, refl, sym, ap, ◌∙◌, subst, Contains, Ordering, Less, Equal, Greater}
use Rattle.std.specs.BTreeMap.{is_at}
use Rattle.std.specs.BTreeSet.{BTreeSet, contains, insert_key}
use Rattle.std.specs.List.{list_any}
use Rattle.std.specs.Ordering.{is_eq, match_ordering}
use Rattle.std.proofs.lemmas.Bool.{cases_Bool, false≢true}
use Rattle.findings.proofs.Sorted.{Contains-cases, Contains-here, Contains-none, Contains-there}
use Rattle.model.specs.Growth.{Adds}
use Rattle.model.proofs.Adding.{or_right}

equal_of : (r : Ordering) → is_eq r ≡ true → r ≡ Equal
equal_of Equal t = refl
equal_of Less t = cc
equal_of Greater t = cc

-- `shows` says what a key stands for, and keys that compare as equal stand for the same.
module _ {K Y : Type 0} (shows : K → Y) (cmp : K → K → Ordering) (same : (x y : K) → cmp x y ≡ Equal → shows x ≡ shows y) where
  here : (x : K) (xs : List K) (y : Y) → shows x ≡ y → Contains (map shows (x ∷ xs)) y
  here x xs y e = subst (λ z. Contains (shows x ∷ map shows xs) z) e (Contains-here (shows x) (map shows xs))

  inserted : (keys : List K) (key : K) (y : Y) → Contains (map shows (insert_key cmp keys key)) y ↔ (Contains (map shows keys) y ⊎ (shows key ≡ y))
  inserted [] key y = (
    (λ c. elim (Contains-cases (shows key) [] y c) [ inl e ↦ inr e | inr none ↦ inl none ]),
    (λ h. elim h [ inl none ↦ absurd (Contains-none y none) | inr e ↦ here key [] y e ]),
  )
  inserted (x ∷ xs) key y = go (inserted xs key y) (cmp key x) refl
    where
      go : Contains (map shows (insert_key cmp xs key)) y ↔ (Contains (map shows xs) y ⊎ (shows key ≡ y)) → (r : Ordering) → cmp key x ≡ r → Contains (map shows (match_ordering r (key ∷ x ∷ xs) (x ∷ xs) (x ∷ insert_key cmp xs key))) y ↔ (Contains (map shows (x ∷ xs)) y ⊎ (shows key ≡ y))
      go rest Less e = (
        (λ c. elim (Contains-cases (shows key) (map shows (x ∷ xs)) y c) [ inl is ↦ inr is | inr k ↦ inl k ]),
        (λ h. elim h [ inl k ↦ Contains-there (shows key) (map shows (x ∷ xs)) y k | inr is ↦ here key (x ∷ xs) y is ]),
      )
      go rest Equal e = ((λ c. inl c), (λ h. elim h [ inl k ↦ k | inr is ↦ here x xs y (sym (same key x e) ∙ is) ]))
      go rest Greater e = (
        (λ c. elim (Contains-cases (shows x) (map shows (insert_key cmp xs key)) y c) [
          | inl is ↦ inl (here x xs y is)
          | inr k ↦ elim (rest.0 k) [ inl m ↦ inl (Contains-there (shows x) (map shows xs) y m) | inr is ↦ inr is ]
        ]),
        (λ h. elim h [
          | inl m ↦ elim (Contains-cases (shows x) (map shows xs) y m) [
            | inl is ↦ here x (insert_key cmp xs key) y is
            | inr k ↦ Contains-there (shows x) (map shows (insert_key cmp xs key)) y (rest.1 (inl k))
          ]
          | inr is ↦ Contains-there (shows x) (map shows (insert_key cmp xs key)) y (rest.1 (inr is))
        ]),
      )

  -- a set with one key more
  pub added : (old new : BTreeSet K) (key : K) → new.keys ≡ insert_key cmp old.keys key → Adds (λ y. shows key ≡ y) (map shows old.keys) (map shows new.keys)
  added old new key e = subst (λ keys. Adds (λ y. shows key ≡ y) (map shows old.keys) (map shows keys)) (sym e) (inserted old.keys key)

  shown : (key : K) (keys : List K) → list_any (is_at (cmp key)) keys ≡ true → Contains (map shows keys) (shows key)
  shown key [] e = absurd (false≢true e)
  shown key (k ∷ keys) e = elim (cases_Bool (is_at (cmp key) k)) [
    | inl t ↦ here k keys (shows key) (sym (same key k (equal_of (cmp key k) t)))
    | inr f ↦ Contains-there (shows k) (map shows keys) (shows key) (shown key keys (sym (ap (λ b. b || list_any (is_at (cmp key)) keys) f) ∙ e))
  ]

  -- a key that was not new in a set stands for what another one does
  pub was_there : (set : BTreeSet K) (key : K) (is_new : Bool) → is_new ≡ not (contains cmp set key) → is_new ≡ false → Contains (map shows set.keys) (shows key)
  was_there set key is_new e f = elim (cases_Bool (contains cmp set key)) [
    | inl t ↦ shown key set.keys t
    | inr n ↦ absurd (let bad : true ≡ false = sym (ap not n) ∙ sym e ∙ f in cc)
  ]

  -- a key that was new in a set stands for what no other one does
  module _ (alike : (x y : K) → shows x ≡ shows y → cmp x y ≡ Equal) where
    found : (key : K) (keys : List K) → Contains (map shows keys) (shows key) → list_any (is_at (cmp key)) keys ≡ true
    found key [] c = absurd (Contains-none (shows key) c)
    found key (k ∷ keys) c = elim (Contains-cases (shows k) (map shows keys) (shows key) c) [
      | inl e ↦ ap (λ r. is_eq r || list_any (is_at (cmp key)) keys) (alike key k (sym e))
      | inr there ↦ or_right (is_at (cmp key) k) (list_any (is_at (cmp key)) keys) (found key keys there)
    ]

    pub was_new : (set : BTreeSet K) (key : K) (is_new : Bool) → is_new ≡ not (contains cmp set key) → is_new ≡ true → Contains (map shows set.keys) (shows key) → ⊥
    was_new set key is_new e t c = let there = found key set.keys c in let bad : true ≡ false = sym t ∙ e ∙ ap not there in cc
