-- What is looked for at all positions that a file has, it is enough to look for in two ranges: its blocks, and its tables.
use Rattle.std.proofs.Common.{◌≡◌, ◌<◌, ◌≤◌, ◌+◌, ◌-◌, ℕ, zero, suc, Bool, true, false, cond, ◌||◌, ltb, List, [], ◌∷◌, ◌++◌, inl, inr, refl, sym, ap, ap₂, ◌∙◌, arith, IsTrue, IsFalse, ◌⊎◌, add-zero, add-suc, append_assoc}
use Rattle.std.proofs.lemmas.Bool.{cases_lt, ltb-true, leb-true, le-leb, and_parts, and_right, le-ltb, false_from_ne_true}
use Rattle.std.proofs.lemmas.List.{append-nil}
use Rattle.model.specs.Layout.{Geometry}
use Rattle.model.specs.View.{View}
use Rattle.model.specs.Shape.{most_blocks, position_count, first_block, is_table, reaches, tables}
use Rattle.model.specs.Uses.{blocks_of, IsUse}
use Rattle.model.specs.Below.{found_below, any_below}
use Rattle.model.proofs.Shape.{own_first, some_table, tables_range}
use Rattle.model.proofs.Steps.{use_sound}
use Rattle.model.proofs.Uses.{has_below, sound_few, use_has, use_number}

-- ---- over any bound
either_assoc : (a b c : Bool) → ((a || b) || c) ≡ (a || (b || c))
either_assoc true b c = refl
either_assoc false b c = refl

either_none : (a : Bool) → (a || false) ≡ a
either_none true = refl
either_none false = refl

pub any_split : (p : ℕ → Bool) (a n : ℕ) → any_below (a + n) p ≡ (any_below a p || any_below n (λ j. p (a + j)))
unfolding any_below
any_split p a zero = ap (λ x. any_below x p) (add-zero a) ∙ sym (either_none (any_below a p))
any_split p a (suc n) =
    ap (λ x. any_below x p) (add-suc a n) ∙ ap (λ b. b || p (a + n)) (any_split p a n) ∙ either_assoc (any_below a p) (any_below n (λ j. p (a + j))) (p (a + n))

pub any_none : (p : ℕ → Bool) (n : ℕ) → ((j : ℕ) → j < n → IsFalse (p j)) → any_below n p ≡ false
unfolding any_below
any_none p zero h = refl
any_none p (suc n) h = ap₂ (λ a b. a || b) (any_none p n (λ j l. h j (omega (arith, l)))) (h n (omega arith))

module _ {K : Type 0} where
  pub found_split : (p : ℕ → Bool) (f : ℕ → K) (a n : ℕ) → found_below p f (a + n) ≡ found_below p f a ++ found_below (λ j. p (a + j)) (λ j. f (a + j)) n
  unfolding found_below
  found_split p f a zero = ap (found_below p f) (add-zero a) ∙ sym (append-nil (found_below p f a))
  found_split p f a (suc n) =
      ap (found_below p f) (add-suc a n) ∙ ap (λ xs. cond (p (a + n)) (xs ++ f (a + n) ∷ []) xs) (found_split p f a n)
      ∙ inner (p (a + n)) (found_below p f a) (found_below (λ j. p (a + j)) (λ j. f (a + j)) n) (f (a + n))
    where
      inner : (b : Bool) (xs ys : List K) (x : K) → cond b ((xs ++ ys) ++ x ∷ []) (xs ++ ys) ≡ xs ++ cond b (ys ++ x ∷ []) ys
      inner true xs ys x = append_assoc xs ys (x ∷ [])
      inner false xs ys x = refl

  pub found_none : (p : ℕ → Bool) (f : ℕ → K) (n : ℕ) → ((j : ℕ) → j < n → IsFalse (p j)) → found_below p f n ≡ []
  unfolding found_below
  found_none p f zero h = refl
  found_none p f (suc n) h =
      ap (λ b. cond b (found_below p f n ++ f n ∷ []) (found_below p f n)) (h n (omega arith)) ∙ found_none p f n (λ j l. h j (omega (arith, l)))

-- ---- over the positions of a file of so many blocks
module _ (geo : Geometry) (count : ℕ) (few : count ≤ most_blocks geo) (p : ℕ → Bool) (no_other : (k : ℕ) → k < position_count geo → IsFalse (reaches geo count k) → IsFalse (p k)) where
  abbrev at_table : ℕ → ℕ
  at_table j = most_blocks geo + j

  past_blocks : (j : ℕ) → j < most_blocks geo - count → IsFalse (p (count + j))
  past_blocks j low =
      let below : count + j < most_blocks geo = omega arith in
      let inside : count + j < position_count geo = omega (arith, some_table geo) in
      let own = own_first geo (count + j) below in
      no_other (count + j) inside (and_right (ltb (count + j) (position_count geo)) (ltb (first_block geo (count + j)) count) (le-ltb (first_block geo (count + j)) count (omega arith)))

  past_tables : (j : ℕ) → j < position_count geo - most_blocks geo - tables count → IsFalse (p (at_table (tables count + j)))
  past_tables j low =
      no_other (at_table (tables count + j)) (omega arith) (false_from_ne_true (reaches geo count (at_table (tables count + j))) (λ t.
      let below = (tables_range geo count (at_table (tables count + j)) few (omega arith)).0 t in omega arith))

  tables_fit : tables count ≤ position_count geo - most_blocks geo
  tables_fit = elim (cases_lt 0 (tables count)) [
    | inl some ↦
        let reached = (tables_range geo count (at_table (tables count - 1)) few (omega arith)).1 (omega arith) in
        let inside = ltb-true (at_table (tables count - 1)) (position_count geo) (and_parts (ltb (at_table (tables count - 1)) (position_count geo)) (ltb (first_block geo (at_table (tables count - 1))) count) reached).0 in
        omega arith
    | inr none ↦ omega arith
  ]

  all : position_count geo ≡ most_blocks geo + (tables count + (position_count geo - most_blocks geo - tables count))
  all = let fit = tables_fit in let some = some_table geo in omega arith

  blocks_of_all : most_blocks geo ≡ count + (most_blocks geo - count)
  blocks_of_all = omega arith

  pub any_by_ranges : any_below (position_count geo) p ≡ (any_below count p || any_below (tables count) (λ j. p (at_table j)))
  any_by_ranges =
      ap (λ n. any_below n p) all ∙ any_split p (most_blocks geo) (tables count + (position_count geo - most_blocks geo - tables count))
      ∙ ap₂ (λ a b. a || b)
      (ap (λ n. any_below n p) blocks_of_all ∙ any_split p count (most_blocks geo - count)
      ∙ ap (λ b. any_below count p || b) (any_none (λ j. p (count + j)) (most_blocks geo - count) past_blocks) ∙ either_none (any_below count p))
      (any_split (λ j. p (at_table j)) (tables count) (position_count geo - most_blocks geo - tables count)
      ∙ ap (λ b. any_below (tables count) (λ j. p (at_table j)) || b) (any_none (λ j. p (at_table (tables count + j))) (position_count geo - most_blocks geo - tables count) past_tables)
      ∙ either_none (any_below (tables count) (λ j. p (at_table j))))

  pub found_by_ranges : {K : Type 0} (f : ℕ → K) → found_below p f (position_count geo) ≡ found_below p f count ++ found_below (λ j. p (at_table j)) (λ j. f (at_table j)) (tables count)
  found_by_ranges f =
      ap (found_below p f) all ∙ found_split p f (most_blocks geo) (tables count + (position_count geo - most_blocks geo - tables count))
      ∙ ap₂ (λ a b. a ++ b)
      (ap (found_below p f) blocks_of_all ∙ found_split p f count (most_blocks geo - count)
      ∙ ap (λ b. found_below p f count ++ b) (found_none (λ j. p (count + j)) (λ j. f (count + j)) (most_blocks geo - count) past_blocks) ∙ append-nil (found_below p f count))
      (found_split (λ j. p (at_table j)) (λ j. f (at_table j)) (tables count) (position_count geo - most_blocks geo - tables count)
      ∙ ap (λ b. found_below (λ j. p (at_table j)) (λ j. f (at_table j)) (tables count) ++ b) (found_none (λ j. p (at_table (tables count + j))) (λ j. f (at_table (tables count + j))) (position_count geo - most_blocks geo - tables count) past_tables)
      ∙ append-nil (found_below (λ j. p (at_table j)) (λ j. f (at_table j)) (tables count)))

-- ---- where a use stands
pub table_below : (geo : Geometry) (view : View) (i m v : ℕ) → IsTrue (is_table geo m) → IsUse geo view i m v → m < most_blocks geo + tables (blocks_of (view.inode i).size)
table_below geo view i m v is u =
    let r = use_number geo view i m v u in
    let few = sound_few geo (view.inode i) (use_sound geo view (view.inode i) m v r.1) in
    (tables_range geo (blocks_of (view.inode i).size) m few (leb-true (most_blocks geo) m is)).0 (use_has geo view (view.inode i) m v r.1)

-- below the blocks, or among the tables
pub use_places : (geo : Geometry) (view : View) (i k v : ℕ) → IsUse geo view i k v
    → (k < blocks_of (view.inode i).size) ⊎ (IsTrue (is_table geo k) × (k < most_blocks geo + tables (blocks_of (view.inode i).size)))
use_places geo view i k v u = elim (cases_lt k (most_blocks geo)) [
  | inl low ↦ inl (has_below geo (view.inode i) k low (use_has geo view (view.inode i) k v (use_number geo view i k v u).1))
  | inr far ↦ let is : IsTrue (is_table geo k) = le-leb (most_blocks geo) k far in inr (is, table_below geo view i k v is u)
]
