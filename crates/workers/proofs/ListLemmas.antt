-- Lists with one element more, read by place.
use Rattle.std.proofs.Common.{◌≡◌, ℕ, zero, suc, ◌+◌, ◌<◌, List, [], ◌∷◌, ◌++◌, length, Some, slice_get, refl, sym, ap, ◌∙◌, subst, arith, ◌⊎◌, inl, inr, slice_set, ◌≤◌}
use Rattle.std.proofs.lemmas.Bool.{cases_lt}
use Rattle.std.proofs.lemmas.List.{length_push}
use Rattle.std.proofs.lemmas.Option.{slice_get_within}
use Rattle.std.specs.List.{enumerate_from}

-- what stood there stands there
pub slice_get-old : {X : Type 0} (xs ys : List X) (i : ℕ) (x : X) → slice_get xs i ≡ Some x → slice_get (xs ++ ys) i ≡ Some x
slice_get-old [] ys i x h = cc
slice_get-old (y ∷ xs) ys zero x h = h
slice_get-old (y ∷ xs) ys (suc i) x h = slice_get-old xs ys i x h

-- and the last one in the place after that
pub slice_get-new : {X : Type 0} (xs : List X) (x : X) → slice_get (xs ++ x ∷ []) (length xs) ≡ Some x
slice_get-new [] x = refl
slice_get-new (y ∷ xs) x = slice_get-new xs x

-- no others
pub slice_get-push : {X : Type 0} (xs : List X) (y : X) (i : ℕ) (x : X) → slice_get (xs ++ y ∷ []) i ≡ Some x → (slice_get xs i ≡ Some x) ⊎ ((i ≡ length xs) × (x ≡ y))
slice_get-push [] y zero x h = inr (refl, cc)
slice_get-push [] y (suc i) x h = absurd cc
slice_get-push (z ∷ xs) y zero x h = inl h
slice_get-push (z ∷ xs) y (suc i) x h = elim (slice_get-push xs y i x h) [
  | inl there ↦ inl there
  | inr last ↦ inr (ap suc last.0, last.1)
]

-- places from a on
pub enumerate_from-push : {X : Type 0} (a : ℕ) (xs : List X) (x : X) → enumerate_from a (xs ++ x ∷ []) ≡ enumerate_from a xs ++ (a + length xs, x) ∷ []
enumerate_from-push {X} a [] x = ap (λ (k : ℕ). let call : ℕ × X = (k, x) in call ∷ []) (omega arith)
enumerate_from-push {X} a (y ∷ xs) x =
    let k : a + 1 + length xs ≡ a + suc (length xs) = omega arith in
    ap (λ es. (a, y) ∷ es) (enumerate_from-push (a + 1) xs x ∙ ap (λ (i : ℕ). enumerate_from (a + 1) xs ++ (i, x) ∷ []) k)

-- Where each element of one list is made of that of another, and of its place, so it is with one more in each.
pub places-push : {X Y : Type 0} (f : ℕ → X → Y) (xs : List X) (ys : List Y) (x : X) (y : Y) → length ys ≡ length xs → y ≡ f (length xs) x
    → ((i : ℕ) (w : X) → slice_get xs i ≡ Some w → slice_get ys i ≡ Some (f i w))
    → (i : ℕ) (w : X) → slice_get (xs ++ x ∷ []) i ≡ Some w → slice_get (ys ++ y ∷ []) i ≡ Some (f i w)
places-push f xs ys x y same made each i w h = elim (slice_get-push xs x i w h) [
  | inl there ↦ slice_get-old ys (y ∷ []) i (f i w) (each i w there)
  | inr last ↦ (
      let here = slice_get-new ys y in
      let e : length ys ≡ i = omega (arith, last.0) in
      subst (λ (k : ℕ). slice_get (ys ++ y ∷ []) k ≡ Some (f i w)) e (here ∙ ap Some (made ∙ ap (λ (k : ℕ). f k x) (sym last.0) ∙ ap (f i) (sym last.1)))
      )
]

-- a place below the end has an element
pub slice_get-is : {X : Type 0} (xs : List X) (i : ℕ) → i < length xs → (x : X) × (slice_get xs i ≡ Some x)
slice_get-is [] i below = absurd (omega arith)
slice_get-is (x ∷ xs) zero below = (x, refl)
slice_get-is (x ∷ xs) (suc i) below = slice_get-is xs i (omega arith)

-- a place that was written
pub slice_get-set_same : {X : Type 0} (xs : List X) (i : ℕ) (x y : X) → i < length xs → slice_get (slice_set xs i x) i ≡ Some y → x ≡ y
slice_get-set_same [] i x y below h = absurd (omega arith)
slice_get-set_same (z ∷ xs) zero x y below h = cc
slice_get-set_same (z ∷ xs) (suc i) x y below h = slice_get-set_same xs i x y (omega arith) h

-- and the others
pub slice_get-set_other : {X : Type 0} (xs : List X) (i j : ℕ) (x : X) → (i ≡ j → ⊥) → slice_get (slice_set xs i x) j ≡ slice_get xs j
slice_get-set_other [] i j x other = refl
slice_get-set_other (z ∷ xs) zero zero x other = absurd (other refl)
slice_get-set_other (z ∷ xs) zero (suc j) x other = refl
slice_get-set_other (z ∷ xs) (suc i) zero x other = refl
slice_get-set_other (z ∷ xs) (suc i) (suc j) x other = slice_get-set_other xs i j x (λ e. other (ap suc e))

-- one element more: what stands in an old place, and in the new one
old_place : {X : Type 0} (xs : List X) (x a : X) (i : ℕ) → slice_get (xs ++ x ∷ []) i ≡ Some a → i < length xs → slice_get xs i ≡ Some a
old_place xs x a i h below = elim (slice_get-push xs x i a h) [
  | inl there ↦ there
  | inr last ↦ absurd (let e = last.0 in omega arith)
]

new_place : {X : Type 0} (xs : List X) (x a : X) (i : ℕ) → slice_get (xs ++ x ∷ []) i ≡ Some a → length xs ≤ i → (i ≡ length xs) × (a ≡ x)
new_place xs x a i h past = elim (slice_get-push xs x i a h) [
  | inl there ↦ absurd (let e = slice_get_within xs i a there in omega arith)
  | inr last ↦ last
]

-- lists that are as long as each other are so with one element more
pub one_more : {A Z : Type 0} (xs : List A) (x : A) (zs : List Z) (z : Z) → length xs ≡ length zs → length (xs ++ x ∷ []) ≡ length (zs ++ z ∷ [])
one_more xs x zs z same = length_push xs x ∙ ap (λ (k : ℕ). k + 1) same ∙ sym (length_push zs z)

-- Where each element of a list is made of those of three others, so it is with one more in each.
pub triples-push : {A B C Z : Type 0} (f : A → B → C → Z) (xs : List A) (ys : List B) (ws : List C) (zs : List Z) (x : A) (y : B) (w : C) (z : Z)
    → length xs ≡ length zs → length ys ≡ length zs → length ws ≡ length zs → z ≡ f x y w
    → ((i : ℕ) (a : A) (b : B) (c : C) → slice_get xs i ≡ Some a → slice_get ys i ≡ Some b → slice_get ws i ≡ Some c → slice_get zs i ≡ Some (f a b c))
    → (i : ℕ) (a : A) (b : B) (c : C) → slice_get (xs ++ x ∷ []) i ≡ Some a → slice_get (ys ++ y ∷ []) i ≡ Some b → slice_get (ws ++ w ∷ []) i ≡ Some c
    → slice_get (zs ++ z ∷ []) i ≡ Some (f a b c)
triples-push f xs ys ws zs x y w z m n o made each i a b c h k l = elim (cases_lt i (length zs)) [
  | inl below ↦ slice_get-old zs (z ∷ []) i (f a b c) (each i a b c (old_place xs x a i h (omega arith)) (old_place ys y b i k (omega arith)) (old_place ws w c i l (omega arith)))
  | inr past ↦ (
      let p = new_place xs x a i h (omega arith) in
      let q = new_place ys y b i k (omega arith) in
      let r = new_place ws w c i l (omega arith) in
      let e : length zs ≡ i = sym (p.0 ∙ m) in
      subst (λ (j : ℕ). slice_get (zs ++ z ∷ []) j ≡ Some (f a b c)) e
      (slice_get-new zs z ∙ ap Some (made ∙ ap (λ t. f t y w) (sym p.1) ∙ ap (λ t. f a t w) (sym q.1) ∙ ap (f a b) (sym r.1)))
      )
]
