-- The facts about positions. This file alone opens the words of Shape.
use Rattle.std.proofs.Common.{◌≡◌, ◌<◌, ◌≤◌, ◌+◌, ◌-◌, ◌*◌, ◌/◌, ◌%◌, ℕ, zero, suc, Bool, true, cond, eqb, ltb, inl, inr, ◌⊎◌, ◌↔◌, refl, sym, ap, ◌∙◌, subst, arith, Option, Some, None, IsTrue, IsFalse, List, [], ◌∷◌, ◌++◌, length, filter, Contains, get_or}
use Rattle.std.proofs.lemmas.Bool.{cases_lt, cases_eq, cases_Bool, lt-ltb, le-ltb, ltb-true, le-leb, leb-true, lt-leb, eq-eqb, ne_eqb, eqb-true, and_parts, and_from, cond-true, cond-false}
use Rattle.std.proofs.lemmas.Option.{none-some, same_Some}
use Rattle.model.specs.Layout.{Geometry}
pub use Rattle.model.specs.Shape.{IsAbove, Next, Further}
use Rattle.model.specs.Shape.{direct_positions, is_table, most_blocks, position_count, table_of, place_in_table, first_block, reaches, above, top, new_tables, tables}

-- ---- the numbers: n second-level tables are possible, none in version 1
pub record Numbers (geo : Geometry) (n : ℕ) : Type 0 where
  pub most : most_blocks geo ≡ 268 + 256 * n
  pub few : n ≤ 256
  pub first : most_blocks geo < position_count geo
  pub last : position_count geo ≤ most_blocks geo + 2 + n
  pub none : n ≡ 0 → position_count geo ≡ most_blocks geo + 1
  pub some : 0 < n → position_count geo ≡ most_blocks geo + 2 + n

pub numbers : (geo : Geometry) → (n : ℕ) × Numbers geo n
unfolding most_blocks position_count
numbers geo = elim (cases_Bool (eqb geo.version 2)) [
  | inl two ↦ (
    256,
    (record {
      most = rw two refl;
      few = omega arith;
      first = rw two (omega arith);
      last = rw two (omega arith);
      none = λ h. absurd (omega arith);
      some = λ h. rw two refl;
    }),
  )
  | inr one ↦ (
    0,
    (record {
      most = rw one refl;
      few = omega arith;
      first = rw one (omega arith);
      last = rw one (omega arith);
      none = λ h. rw one refl;
      some = λ h. absurd (omega arith);
    }),
  )
]

-- without a double indirect pointer there is one table alone
pub single_positions : (geo : Geometry) → IsFalse (eqb geo.version 2) → position_count geo ≡ most_blocks geo + 1
unfolding most_blocks position_count
single_positions geo one = rw one refl

-- ---- where a position stands, by cases
pub data Standing (most : ℕ) (table : ℕ → Option ℕ) (place first : ℕ → ℕ) (k : ℕ) : Type 0 where
  Direct : k < 12 → table k ≡ None → first k ≡ k → Standing most table place first k
  Middle : 12 ≤ k → k < 268 → table k ≡ Some most → place k ≡ k - 12 → first k ≡ k → Standing most table place first k
  Deep : (j p : ℕ) → k ≡ 268 + 256 * j + p → p < 256 → k < most → table k ≡ Some (most + 2 + j) → place k ≡ p → first k ≡ k → Standing most table place first k
  First : k ≡ most → table k ≡ None → first k ≡ 12 → Standing most table place first k
  Double : k ≡ most + 1 → table k ≡ None → first k ≡ 268 → Standing most table place first k
  Second : (j : ℕ) → k ≡ most + 2 + j → table k ≡ Some (most + 1) → place k ≡ j → first k ≡ 268 + 256 * j → Standing most table place first k

-- the three words over a variable, so that nothing computes
abbrev table_by : ℕ → ℕ → Option ℕ
table_by most k = cond (ltb k 12) None (cond (ltb k 268) (Some most) (cond (ltb k most) (Some (most + 2 + (k - 268) / 256)) (cond (ltb k (most + 2)) None (Some (most + 1)))))

abbrev place_by : ℕ → ℕ → ℕ
place_by most k = cond (ltb k 268) (k - 12) (cond (ltb k most) ((k - 268) % 256) (k - (most + 2)))

abbrev first_by : ℕ → ℕ → ℕ
first_by most k = cond (ltb k most) k (cond (eqb k most) 12 (268 + 256 * (k - (most + 2))))

standing_by : (most k : ℕ) → 268 ≤ most → Standing most (table_by most) (place_by most) (first_by most) k
standing_by most k wide = elim (cases_lt k 12) [
  | inl low ↦ let below : k < most = omega arith in Direct low (rw (lt-ltb k 12 low) refl) (rw (lt-ltb k most below) refl)
  | inr high ↦ elim (cases_lt k 268) [
    | inl low ↦
        let below : k < most = omega arith in
        Middle high low (rw (le-ltb k 12 high, lt-ltb k 268 low) refl) (rw (lt-ltb k 268 low) refl) (rw (lt-ltb k most below) refl)
    | inr deep ↦ elim (cases_lt k most) [
      | inl below ↦
          Deep ((k - 268) / 256) ((k - 268) % 256) (omega arith) (omega arith) below
          (rw (le-ltb k 12 high, le-ltb k 268 deep, lt-ltb k most below) refl)
          (rw (le-ltb k 268 deep, lt-ltb k most below) refl)
          (rw (lt-ltb k most below) refl)
      | inr past ↦ elim (cases_lt k (most + 2)) [
        | inl low ↦
            let none : table_by most k ≡ None = rw (le-ltb k 12 high, le-ltb k 268 deep, le-ltb k most past, lt-ltb k (most + 2) low) refl in
            elim (cases_eq k most) [
              | inl e ↦ First e none (rw (le-ltb k most past, eq-eqb k most e) refl)
              | inr d ↦
                  let zero : k - (most + 2) ≡ 0 = omega arith in
                  Double (omega arith) none (rw (le-ltb k most past, ne_eqb k most d, zero) refl)
            ]
        | inr far ↦
            let differs : k ≡ most → ⊥ = λ e. omega arith in
            Second (k - (most + 2)) (omega arith)
            (rw (le-ltb k 12 high, le-ltb k 268 deep, le-ltb k most past, le-ltb k (most + 2) far) refl)
            (rw (le-ltb k 268 deep, le-ltb k most past) refl)
            (rw (le-ltb k most past, ne_eqb k most differs) refl)
      ]
    ]
  ]
]

pub standing : (geo : Geometry) (k : ℕ) → Standing (most_blocks geo) (table_of geo) (place_in_table geo) (first_block geo) k
unfolding table_of place_in_table first_block
standing geo k = let num = (numbers geo).1 in standing_by (most_blocks geo) k (omega arith)

-- ---- who holds a pointer, by cases; here alone stand the division and its rest
pub data Holds (geo : Geometry) (k m : ℕ) : Type 0 where
  InFirst : 12 ≤ k → k < 268 → m ≡ most_blocks geo → place_in_table geo k ≡ k - 12 → first_block geo k ≡ k → first_block geo m ≡ 12 → table_of geo m ≡ None → Holds geo k m
  InSecond : (j p : ℕ) → k ≡ 268 + 256 * j + p → p < 256 → k < most_blocks geo → m ≡ most_blocks geo + 2 + j → place_in_table geo k ≡ p → first_block geo k ≡ k → first_block geo m ≡ 268 + 256 * j
      → table_of geo m ≡ Some (most_blocks geo + 1) → Holds geo k m
  InDouble : (j : ℕ) → k ≡ most_blocks geo + 2 + j → m ≡ most_blocks geo + 1 → place_in_table geo k ≡ j → first_block geo k ≡ 268 + 256 * j → first_block geo m ≡ 268 → table_of geo m ≡ None → Holds geo k m

-- the first positions stand in the record
pub direct_none : (geo : Geometry) (k : ℕ) → k < direct_positions → table_of geo k ≡ None
direct_none geo k low = let most = (numbers geo).1.most in elim (standing geo k) [
  | Direct few t f ↦ t
  | Middle from few t p f ↦ absurd (omega arith)
  | Deep j p at small few t place f ↦ absurd (omega arith)
  | First at t f ↦ absurd (omega arith)
  | Double at t f ↦ absurd (omega arith)
  | Second j at t p f ↦ absurd (omega arith)
]

pub first_stands : (geo : Geometry) → (first_block geo (most_blocks geo) ≡ 12) × (table_of geo (most_blocks geo) ≡ None)
first_stands geo = let most = (numbers geo).1.most in elim (standing geo (most_blocks geo)) [
  | Direct low t f ↦ absurd (omega arith)
  | Middle from low t p f ↦ absurd (omega arith)
  | Deep j p at small low t place f ↦ absurd (omega arith)
  | First at t f ↦ (f, t)
  | Double at t f ↦ absurd (omega arith)
  | Second j at t p f ↦ absurd (omega arith)
]

double_stands : (geo : Geometry) → (first_block geo (most_blocks geo + 1) ≡ 268) × (table_of geo (most_blocks geo + 1) ≡ None)
double_stands geo = let most = (numbers geo).1.most in elim (standing geo (most_blocks geo + 1)) [
  | Direct low t f ↦ absurd (omega arith)
  | Middle from low t p f ↦ absurd (omega arith)
  | Deep j p at small low t place f ↦ absurd (omega arith)
  | First at t f ↦ absurd (omega arith)
  | Double at t f ↦ (f, t)
  | Second j at t p f ↦ absurd (omega arith)
]

second_stands : (geo : Geometry) (j : ℕ) → (first_block geo (most_blocks geo + 2 + j) ≡ 268 + 256 * j) × (table_of geo (most_blocks geo + 2 + j) ≡ Some (most_blocks geo + 1))
second_stands geo j = let most = (numbers geo).1.most in elim (standing geo (most_blocks geo + 2 + j)) [
  | Direct low t f ↦ absurd (omega arith)
  | Middle from low t p f ↦ absurd (omega arith)
  | Deep q p at small low t place f ↦ absurd (omega arith)
  | First at t f ↦ absurd (omega arith)
  | Double at t f ↦ absurd (omega arith)
  | Second i at t p f ↦ (omega arith, t)
]

pub holds : (geo : Geometry) (k m : ℕ) → table_of geo k ≡ Some m → Holds geo k m
holds geo k m h = elim (standing geo k) [
  | Direct low t f ↦ absurd (none-some m (sym t ∙ h))
  | Middle from low t p f ↦
      let is : most_blocks geo ≡ m = same_Some (most_blocks geo) m (sym t ∙ h) in
      InFirst from low (sym is) p f (ap (first_block geo) (sym is) ∙ (first_stands geo).0) (ap (table_of geo) (sym is) ∙ (first_stands geo).1)
  | Deep j p at small low t place f ↦
      let is : most_blocks geo + 2 + j ≡ m = same_Some (most_blocks geo + 2 + j) m (sym t ∙ h) in
      InSecond j p at small low (sym is) place f (ap (first_block geo) (sym is) ∙ (second_stands geo j).0) (ap (table_of geo) (sym is) ∙ (second_stands geo j).1)
  | First at t f ↦ absurd (none-some m (sym t ∙ h))
  | Double at t f ↦ absurd (none-some m (sym t ∙ h))
  | Second j at t p f ↦
      let is : most_blocks geo + 1 ≡ m = same_Some (most_blocks geo + 1) m (sym t ∙ h) in
      InDouble j at (sym is) p f (ap (first_block geo) (sym is) ∙ (double_stands geo).0) (ap (table_of geo) (sym is) ∙ (double_stands geo).1)
]

-- ---- the facts
pub table_is_table : (geo : Geometry) (k m : ℕ) → table_of geo k ≡ Some m → most_blocks geo ≤ m
table_is_table geo k m h = elim (holds geo k m h) [
  | InFirst from low is p f g n ↦ omega arith
  | InSecond j p at small low is place f g t ↦ omega arith
  | InDouble j at is p f g n ↦ omega arith
]

pub table_inside : (geo : Geometry) (k m : ℕ) → k < position_count geo → table_of geo k ≡ Some m → m < position_count geo
table_inside geo k m low h = let num = (numbers geo).1 in elim (holds geo k m h) [
  | InFirst from few is p f g n ↦ omega arith
  | InSecond j p at small few is place f g t ↦ omega arith
  | InDouble j at is p f g n ↦ omega arith
]

pub place_inside : (geo : Geometry) (k m : ℕ) → k < position_count geo → table_of geo k ≡ Some m → place_in_table geo k < 256
place_inside geo k m low h = let num = (numbers geo).1 in elim (holds geo k m h) [
  | InFirst from few is p f g n ↦ omega arith
  | InSecond j p at small few is place f g t ↦ omega arith
  | InDouble j at is p f g n ↦ omega arith
]

-- two positions with the same table and the same place are equal
pub one_position : (geo : Geometry) (k l m : ℕ) → table_of geo k ≡ Some m → table_of geo l ≡ Some m → place_in_table geo k ≡ place_in_table geo l → k ≡ l
one_position geo k l m h g same = elim (holds geo k m h) [
  | InFirst from few is p f x n ↦ elim (holds geo l m g) [
    | InFirst from2 few2 is2 p2 f2 x2 n2 ↦ omega arith
    | InSecond j2 q2 at2 small2 low2 is2 place2 f2 x2 t2 ↦ absurd (omega arith)
    | InDouble j2 at2 is2 p2 f2 x2 n2 ↦ absurd (omega arith)
  ]
  | InSecond j q at small low is place f x t ↦ elim (holds geo l m g) [
    | InFirst from2 few2 is2 p2 f2 x2 n2 ↦ absurd (omega arith)
    | InSecond j2 q2 at2 small2 low2 is2 place2 f2 x2 t2 ↦ omega arith
    | InDouble j2 at2 is2 p2 f2 x2 n2 ↦ absurd (omega arith)
  ]
  | InDouble j at is p f x n ↦ elim (holds geo l m g) [
    | InFirst from2 few2 is2 p2 f2 x2 n2 ↦ absurd (omega arith)
    | InSecond j2 q2 at2 small2 low2 is2 place2 f2 x2 t2 ↦ absurd (omega arith)
    | InDouble j2 at2 is2 p2 f2 x2 n2 ↦ omega arith
  ]
]

-- who has a position has its table
pub earlier : (geo : Geometry) (k m : ℕ) → table_of geo k ≡ Some m → first_block geo m ≤ first_block geo k
earlier geo k m h = elim (holds geo k m h) [
  | InFirst from low is p f g n ↦ omega arith
  | InSecond j p at small low is place f g t ↦ omega arith
  | InDouble j at is p f g n ↦ omega arith
]

-- a table's table has none
pub shallow : (geo : Geometry) (k m t : ℕ) → table_of geo k ≡ Some m → table_of geo m ≡ Some t → table_of geo t ≡ None
shallow geo k m t h g = elim (holds geo k m h) [
  | InFirst from low is p f x n ↦ absurd (none-some t (sym n ∙ g))
  | InSecond j p at small low is place f x top ↦ ap (table_of geo) (sym (same_Some (most_blocks geo + 1) t (sym top ∙ g))) ∙ (double_stands geo).1
  | InDouble j at is p f x n ↦ absurd (none-some t (sym n ∙ g))
]

-- what comes with a new table stands first in it
pub new_first : (geo : Geometry) (k m : ℕ) → table_of geo k ≡ Some m → first_block geo m ≡ first_block geo k → place_in_table geo k ≡ 0
new_first geo k m h same = elim (holds geo k m h) [
  | InFirst from low is p f g n ↦ omega arith
  | InSecond j p at small low is place f g t ↦ omega arith
  | InDouble j at is p f g n ↦ omega arith
]

pub many_blocks : (geo : Geometry) → 12 < most_blocks geo
many_blocks geo = let num = (numbers geo).1 in omega arith

pub some_table : (geo : Geometry) → most_blocks geo < position_count geo
some_table geo = (numbers geo).1.first

pub own_first : (geo : Geometry) (k : ℕ) → k < most_blocks geo → first_block geo k ≡ k
unfolding first_block
own_first geo k low = rw (lt-ltb k (most_blocks geo) low) refl

-- what it says that a position is reached
pub reach_parts : (geo : Geometry) (count k : ℕ) → IsTrue (reaches geo count k) → (k < position_count geo) × (first_block geo k < count)
reach_parts geo count k h =
    let p = and_parts (ltb k (position_count geo)) (ltb (first_block geo k) count) h in (ltb-true k (position_count geo) p.0, ltb-true (first_block geo k) count p.1)

pub reach_from : (geo : Geometry) (count k : ℕ) → k < position_count geo → first_block geo k < count → IsTrue (reaches geo count k)
reach_from geo count k inside few = and_from (ltb k (position_count geo)) (ltb (first_block geo k) count) (lt-ltb k (position_count geo) inside) (lt-ltb (first_block geo k) count few)

-- who has a position with fewer blocks has it with more
pub more_reach : (geo : Geometry) (few many k : ℕ) → few ≤ many → IsTrue (reaches geo few k) → IsTrue (reaches geo many k)
more_reach geo few many k more h =
    let p = and_parts (ltb k (position_count geo)) (ltb (first_block geo k) few) h in
    let below : first_block geo k < many = omega (arith, ltb-true (first_block geo k) few p.1) in
    and_from (ltb k (position_count geo)) (ltb (first_block geo k) many) p.0 (lt-ltb (first_block geo k) many below)

-- ---- and the table of a position that is reached
pub reach_table : (geo : Geometry) (count k m : ℕ) → table_of geo k ≡ Some m → IsTrue (reaches geo count k) → IsTrue (reaches geo count m)
reach_table geo count k m h r =
    let p = and_parts (ltb k (position_count geo)) (ltb (first_block geo k) count) r in
    let inside = table_inside geo k m (ltb-true k (position_count geo) p.0) h in
    let below : first_block geo m < count = omega (arith, ltb-true (first_block geo k) count p.1, earlier geo k m h) in
    and_from (ltb m (position_count geo)) (ltb (first_block geo m) count) (lt-ltb m (position_count geo) inside) (lt-ltb (first_block geo m) count below)

-- ---- the way from a position to the record
-- what holds of a position if it holds of its table holds of each position
pub by_way : (geo : Geometry) (P : ℕ → Type 0) → ((k : ℕ) → ((m : ℕ) → table_of geo k ≡ Some m → P m) → P k) → (k : ℕ) → P k
by_way geo P step k = step k (λ m h. step m (λ t g. step t (λ x e. absurd (none-some x (sym (shallow geo k m t h g) ∙ e)))))

pub table_cases : (geo : Geometry) (k : ℕ) → (table_of geo k ≡ None) ⊎ ((m : ℕ) × (table_of geo k ≡ Some m))
table_cases geo k = go (table_of geo k) refl
  where
    go : (o : Option ℕ) → table_of geo k ≡ o → (table_of geo k ≡ None) ⊎ ((m : ℕ) × (table_of geo k ≡ Some m))
    go None e = inl e
    go (Some m) e = inr (m, e)

pub data Way (geo : Geometry) (k : ℕ) : Type 0 where
  Alone : table_of geo k ≡ None → above geo k ≡ [] → top geo k ≡ k → Way geo k
  One : (m : ℕ) → table_of geo k ≡ Some m → table_of geo m ≡ None → above geo k ≡ m ∷ [] → top geo k ≡ m → Way geo k
  Two : (m t : ℕ) → table_of geo k ≡ Some m → table_of geo m ≡ Some t → table_of geo t ≡ None → above geo k ≡ m ∷ t ∷ [] → top geo k ≡ t → Way geo k

pub way : (geo : Geometry) (k : ℕ) → Way geo k
unfolding above top
way geo k = elim (table_cases geo k) [
  | inl none ↦ Alone none (rw none refl) (rw none refl)
  | inr one ↦ elim (table_cases geo one.0) [
    | inl none ↦ One one.0 one.1 none (rw (one.1, none) refl) (rw (one.1, none) refl)
    | inr two ↦ Two one.0 two.0 one.1 two.1 (shallow geo k one.0 two.0 one.1 two.1) (rw (one.1, two.1) refl) (rw (one.1, two.1) refl)
  ]
]

pub top_none : (geo : Geometry) (k : ℕ) → table_of geo k ≡ None → top geo k ≡ k
unfolding top
top_none geo k none = rw none refl

pub top_step : (geo : Geometry) (k m : ℕ) → table_of geo k ≡ Some m → top geo k ≡ top geo m
top_step geo k m h = elim (way geo k) [
  | Alone none list t ↦ absurd (none-some m (sym none ∙ h))
  | One a one none list t ↦ let same = same_Some a m (sym one ∙ h) in t ∙ sym (top_none geo a none) ∙ ap (top geo) same
  | Two a b one two none list t ↦ let same = same_Some a m (sym one ∙ h) in t ∙ sym (only a b two none) ∙ ap (top geo) same
]
  where
    only : (a b : ℕ) → table_of geo a ≡ Some b → table_of geo b ≡ None → top geo a ≡ b
    only a b two none = elim (way geo a) [
      | Alone f list t ↦ absurd (none-some b (sym f ∙ two))
      | One c one f list t ↦ t ∙ same_Some c b (sym one ∙ two)
      | Two c d one more f list t ↦ absurd (none-some d (sym none ∙ ap (table_of geo) (sym (same_Some c b (sym one ∙ two))) ∙ more))
    ]

-- its pointer stands in the record
pub top_stands : (geo : Geometry) (k : ℕ) → table_of geo (top geo k) ≡ None
top_stands geo k = elim (way geo k) [
  | Alone none list t ↦ ap (table_of geo) t ∙ none
  | One m one none list t ↦ ap (table_of geo) t ∙ none
  | Two m b one two none list t ↦ ap (table_of geo) t ∙ none
]

pub top_inside : (geo : Geometry) (k : ℕ) → k < position_count geo → top geo k < position_count geo
top_inside geo k low = elim (way geo k) [
  | Alone none list t ↦ omega arith
  | One m one none list t ↦ let inside = table_inside geo k m low one in omega arith
  | Two m b one two none list t ↦ let inside = table_inside geo m b (table_inside geo k m low one) two in omega arith
]

cons_parts : (m : ℕ) (xs : List ℕ) (x : ℕ) → Contains (m ∷ xs) x → (m ≡ x) ⊎ Contains xs x
cons_parts m xs x h = go h.0 h.1 h.2
  where
    go : (i : ℕ) → i < length (m ∷ xs) → get_or (m ∷ xs) i x ≡ x → (m ≡ x) ⊎ Contains xs x
    go zero lt e = inl e
    go (suc i) lt e = inr (i, omega (arith, lt), e)

cons_first : (m : ℕ) (xs : List ℕ) (x : ℕ) → m ≡ x → Contains (m ∷ xs) x
cons_first m xs x e = (0, omega arith, e)

cons_rest : (m : ℕ) (xs : List ℕ) (x : ℕ) → Contains xs x → Contains (m ∷ xs) x
cons_rest m xs x h = (suc h.0, omega (arith, h.1), h.2)

nil_none : (x : ℕ) → Contains [] x → ⊥
nil_none x h = omega (arith, h.1)

pub is_above : (geo : Geometry) (k m : ℕ) → Contains (above geo k) m → IsAbove geo k m
is_above geo k m h = elim (way geo k) [
  | Alone none list t ↦ absurd (nil_none m (subst (λ xs. Contains xs m) list h))
  | One a one none list t ↦ elim (cons_parts a [] m (subst (λ xs. Contains xs m) list h)) [
    | inl e ↦ Next (one ∙ ap Some e)
    | inr c ↦ absurd (nil_none m c)
  ]
  | Two a b one two none list t ↦ elim (cons_parts a (b ∷ []) m (subst (λ xs. Contains xs m) list h)) [
    | inl e ↦ Next (one ∙ ap Some e)
    | inr c ↦ elim (cons_parts b [] m c) [
      | inl e ↦ Further a one (two ∙ ap Some e)
      | inr c ↦ absurd (nil_none m c)
    ]
  ]
]

pub above_is : (geo : Geometry) (k m : ℕ) → IsAbove geo k m → Contains (above geo k) m
above_is geo k m (Next h) = elim (way geo k) [
  | Alone none list t ↦ absurd (none-some m (sym none ∙ h))
  | One a one none list t ↦ subst (λ xs. Contains xs m) (sym list) (cons_first a [] m (same_Some a m (sym one ∙ h)))
  | Two a b one two none list t ↦ subst (λ xs. Contains xs m) (sym list) (cons_first a (b ∷ []) m (same_Some a m (sym one ∙ h)))
]
above_is geo k m (Further a h g) = elim (way geo k) [
  | Alone none list t ↦ absurd (none-some a (sym none ∙ h))
  | One b one none list t ↦ absurd (none-some m (sym none ∙ ap (table_of geo) (same_Some b a (sym one ∙ h)) ∙ g))
  | Two b c one two none list t ↦
      subst (λ xs. Contains xs m) (sym list) (cons_rest b (c ∷ []) m (cons_first c [] m (same_Some c m (sym two ∙ ap (table_of geo) (same_Some b a (sym one ∙ h)) ∙ g))))
]

-- the table of a table stands before it
pub table_before : (geo : Geometry) (k m : ℕ) → most_blocks geo ≤ k → table_of geo k ≡ Some m → m < k
table_before geo k m from h = let most = (numbers geo).1.most in elim (holds geo k m h) [
  | InFirst low high is place f g t ↦ absurd (omega arith)
  | InSecond j p at small low is place f g t ↦ absurd (omega arith)
  | InDouble j at is p f g n ↦ omega arith
]

pub above_before : (geo : Geometry) (k m : ℕ) → most_blocks geo ≤ k → IsAbove geo k m → m < k
above_before geo k m from (Next h) = table_before geo k m from h
above_before geo k m from (Further t h g) =
    let near = table_before geo k t from h in let far = table_before geo t m (table_is_table geo k t h) g in omega arith

-- who reaches a position reaches each table on its way
pub reach_above : (geo : Geometry) (count k m : ℕ) → IsAbove geo k m → IsTrue (reaches geo count k) → IsTrue (reaches geo count m)
reach_above geo count k m (Next h) r = reach_table geo count k m h r
reach_above geo count k m (Further t h g) r = reach_table geo count t m g (reach_table geo count k t h r)

-- ---- what comes with a block
-- the positions that come with block n are n and tables on its way
pub comes_with : (geo : Geometry) (n k : ℕ) → n < most_blocks geo → first_block geo k ≡ n → (k ≡ n) ⊎ IsAbove geo n k
comes_with geo n k low is = let num = (numbers geo).1 in elim (standing geo k) [
  | Direct few t f ↦ inl (sym f ∙ is)
  | Middle from few t p f ↦ inl (sym f ∙ is)
  | Deep j p at small few t place f ↦ inl (sym f ∙ is)
  | First at t f ↦ inr (Next (elim (standing geo n) [
    | Direct few u g ↦ absurd (omega arith)
    | Middle from few u p g ↦ u ∙ ap Some (sym at)
    | Deep j p at2 small few u place g ↦ absurd (omega arith)
    | First at2 u g ↦ absurd (omega arith)
    | Double at2 u g ↦ absurd (omega arith)
    | Second j at2 u p g ↦ absurd (omega arith)
  ]))
  | Double at t f ↦ elim (standing geo n) [
    | Direct few u g ↦ absurd (omega arith)
    | Middle from few u p g ↦ absurd (omega arith)
    | Deep j p at2 small few u place g ↦ inr (Further (most_blocks geo + 2 + j) u ((second_stands geo j).1 ∙ ap Some (sym at)))
    | First at2 u g ↦ absurd (omega arith)
    | Double at2 u g ↦ absurd (omega arith)
    | Second j at2 u p g ↦ absurd (omega arith)
  ]
  | Second i at t place f ↦ inr (Next (elim (standing geo n) [
    | Direct few u g ↦ absurd (omega arith)
    | Middle from few u p g ↦ absurd (omega arith)
    | Deep j p at2 small few u place2 g ↦ let same : most_blocks geo + 2 + j ≡ k = omega arith in u ∙ ap Some same
    | First at2 u g ↦ absurd (omega arith)
    | Double at2 u g ↦ absurd (omega arith)
    | Second j at2 u p g ↦ absurd (omega arith)
  ]))
]

filter_parts : (p : ℕ → Bool) (xs : List ℕ) (x : ℕ) → Contains (filter p xs) x → Contains xs x × (p x ≡ true)
filter_parts p [] x h = absurd (nil_none x h)
filter_parts p (y ∷ ys) x h = elim (cases_Bool (p y)) [
  | inl t ↦ elim (cons_parts y (filter p ys) x (subst (λ zs. Contains zs x) (cond-true (p y) (y ∷ filter p ys) (filter p ys) t) h)) [
    | inl e ↦ (cons_first y ys x e, ap p (sym e) ∙ t)
    | inr c ↦ let r = filter_parts p ys x c in (cons_rest y ys x r.0, r.1)
  ]
  | inr f ↦ let r = filter_parts p ys x (subst (λ zs. Contains zs x) (cond-false (p y) (y ∷ filter p ys) (filter p ys) f) h) in (cons_rest y ys x r.0, r.1)
]

filter_has : (p : ℕ → Bool) (xs : List ℕ) (x : ℕ) → Contains xs x → p x ≡ true → Contains (filter p xs) x
filter_has p [] x h t = absurd (nil_none x h)
filter_has p (y ∷ ys) x h t = elim (cons_parts y ys x h) [
  | inl e ↦ subst (λ zs. Contains zs x) (sym (cond-true (p y) (y ∷ filter p ys) (filter p ys) (ap p e ∙ t))) (cons_first y (filter p ys) x e)
  | inr c ↦ elim (cases_Bool (p y)) [
    | inl u ↦ subst (λ zs. Contains zs x) (sym (cond-true (p y) (y ∷ filter p ys) (filter p ys) u)) (cons_rest y (filter p ys) x (filter_has p ys x c t))
    | inr f ↦ subst (λ zs. Contains zs x) (sym (cond-false (p y) (y ∷ filter p ys) (filter p ys) f)) (filter_has p ys x c t)
  ]
]

-- the tables that come with a block are those on its way that come with it
pub new_is : (geo : Geometry) (n m : ℕ) → Contains (new_tables geo n) m → IsAbove geo n m × (first_block geo m ≡ n)
new_is geo n m h =
    let r = filter_parts (λ x. eqb (first_block geo x) n) (above geo n) m h in (is_above geo n m r.0, eqb-true (first_block geo m) n r.1)

pub is_new : (geo : Geometry) (n m : ℕ) → IsAbove geo n m → first_block geo m ≡ n → Contains (new_tables geo n) m
is_new geo n m a is = filter_has (λ x. eqb (first_block geo x) n) (above geo n) m (above_is geo n m a) (eq-eqb (first_block geo m) n is)

-- exactly block n and its new tables come with block n
pub comes_exactly : (geo : Geometry) (n k : ℕ) → n < most_blocks geo → (first_block geo k ≡ n) ↔ ((k ≡ n) ⊎ Contains (new_tables geo n) k)
comes_exactly geo n k low = (
  (λ is. elim (comes_with geo n k low is) [ inl e ↦ inl e | inr a ↦ inr (is_new geo n k a is) ]),
  (λ h. elim h [ inl e ↦ ap (first_block geo) e ∙ own_first geo n low | inr c ↦ (new_is geo n k c).1 ]),
)

-- the new tables of a block, by cases: none, the nearest, or both
pub data New (geo : Geometry) (n : ℕ) : Type 0 where
  NoNew : ((m : ℕ) → IsAbove geo n m → first_block geo m < n) → new_tables geo n ≡ [] → New geo n
  OneNew : (m : ℕ) → table_of geo n ≡ Some m → first_block geo m ≡ n → ((t : ℕ) → table_of geo m ≡ Some t → first_block geo t < n) → new_tables geo n ≡ m ∷ [] → New geo n
  TwoNew : (m t : ℕ) → table_of geo n ≡ Some m → table_of geo m ≡ Some t → first_block geo m ≡ n → first_block geo t ≡ n → new_tables geo n ≡ m ∷ t ∷ [] → New geo n

filtered : (p : ℕ → Bool) (xs ys : List ℕ) → xs ≡ ys → filter p xs ≡ filter p ys
filtered p xs ys e = ap (filter p) e

above_one : (geo : Geometry) (n m t : ℕ) → table_of geo n ≡ Some m → IsAbove geo n t → (t ≡ m) ⊎ (table_of geo m ≡ Some t)
above_one geo n m t one (Next h) = inl (same_Some t m (sym h ∙ one))
above_one geo n m t one (Further a h g) = inr (ap (table_of geo) (same_Some m a (sym one ∙ h)) ∙ g)

pub new : (geo : Geometry) (n : ℕ) → n < most_blocks geo → New geo n
new geo n low =
    let own = own_first geo n low in
    let p : ℕ → Bool = λ x. eqb (first_block geo x) n in
    elim (way geo n) [
      | Alone none list t ↦ NoNew (λ m a. absurd (nil_none m (subst (λ xs. Contains xs m) list (above_is geo n m a)))) (filtered p (above geo n) [] list)
      | One m one none list t ↦ elim (cases_eq (first_block geo m) n) [
        | inl is ↦ OneNew m one is (λ t h. absurd (none-some t (sym none ∙ h))) (filtered p (above geo n) (m ∷ []) list ∙ cond-true (p m) (m ∷ []) [] (eq-eqb (first_block geo m) n is))
        | inr not ↦
            let early = earlier geo n m one in
            NoNew
            (λ t a. elim (above_one geo n m t one a) [ inl e ↦ let same = ap (first_block geo) e in omega (arith, same) | inr h ↦ absurd (none-some t (sym none ∙ h)) ])
            (filtered p (above geo n) (m ∷ []) list ∙ cond-false (p m) (m ∷ []) [] (ne_eqb (first_block geo m) n not))
      ]
      | Two m t one two none list top ↦
          let early = earlier geo n m one in
          let earlier_still = earlier geo m t two in
          let both = filtered p (above geo n) (m ∷ t ∷ []) list in
          elim (cases_eq (first_block geo t) n) [
            | inl is ↦
                let same : first_block geo m ≡ n = omega arith in
                TwoNew m t one two same is
                (both ∙ cond-true (p m) (m ∷ cond (p t) (t ∷ []) []) (cond (p t) (t ∷ []) []) (eq-eqb (first_block geo m) n same) ∙ ap (λ b. m ∷ cond b (t ∷ []) []) (eq-eqb (first_block geo t) n is))
            | inr not ↦ elim (cases_eq (first_block geo m) n) [
              | inl same ↦
                  OneNew m one same (λ u h. let e = ap (first_block geo) (same_Some u t (sym h ∙ two)) in omega (arith, e))
                  (both ∙ cond-true (p m) (m ∷ cond (p t) (t ∷ []) []) (cond (p t) (t ∷ []) []) (eq-eqb (first_block geo m) n same) ∙ ap (λ b. m ∷ cond b (t ∷ []) []) (ne_eqb (first_block geo t) n not))
              | inr differs ↦
                  NoNew
                  (λ u a. elim (above_one geo n m u one a) [ inl e ↦ let same = ap (first_block geo) e in omega (arith, same) | inr h ↦ let same = ap (first_block geo) (same_Some u t (sym h ∙ two)) in omega (arith, same) ])
                  (both ∙ cond-false (p m) (m ∷ cond (p t) (t ∷ []) []) (cond (p t) (t ∷ []) []) (ne_eqb (first_block geo m) n differs) ∙ ap (λ b. cond b (t ∷ []) []) (ne_eqb (first_block geo t) n not))
            ]
          ]
    ]

-- they are the nearest ones on its way
pub new_nearest : (geo : Geometry) (n : ℕ) → n < most_blocks geo → (rest : List ℕ) × (above geo n ≡ new_tables geo n ++ rest)
new_nearest geo n low = elim (new geo n low) [
  | NoNew none list ↦ (above geo n, ap (λ xs. xs ++ above geo n) (sym list))
  | OneNew m one is before list ↦ elim (way geo n) [
    | Alone none all t ↦ absurd (none-some m (sym none ∙ one))
    | One x h none all t ↦ ([], all ∙ ap (λ y. y ∷ []) (same_Some x m (sym h ∙ one)) ∙ ap (λ xs. xs ++ []) (sym list))
    | Two x y h g none all t ↦ (y ∷ [], all ∙ ap (λ z. z ∷ y ∷ []) (same_Some x m (sym h ∙ one)) ∙ ap (λ xs. xs ++ y ∷ []) (sym list))
  ]
  | TwoNew m u one two is also list ↦ elim (way geo n) [
    | Alone none all t ↦ absurd (none-some m (sym none ∙ one))
    | One x h none all t ↦ absurd (none-some u (sym none ∙ ap (table_of geo) (same_Some x m (sym h ∙ one)) ∙ two))
    | Two x y h g none all t ↦
        let first = same_Some x m (sym h ∙ one) in
        let second = same_Some y u (sym g ∙ ap (table_of geo) first ∙ two) in
        ([], all ∙ ap (λ z. z ∷ y ∷ []) first ∙ ap (λ z. m ∷ z ∷ []) second ∙ ap (λ xs. xs ++ []) (sym list))
  ]
]

-- ---- how many tables a file has
pub no_tables : (n : ℕ) → n ≤ 12 → tables n ≡ 0
unfolding tables
no_tables n few = rw (le-leb n 12 few) refl

one_table : (n : ℕ) → 12 < n → n ≤ 268 → tables n ≡ 1
unfolding tables
one_table n many few = rw (lt-leb n 12 many, le-leb n 268 few) refl

more_tables : (n j p : ℕ) → n ≡ 268 + 256 * j + p + 1 → p < 256 → tables n ≡ 3 + j
unfolding tables
more_tables n j p at small =
    let past : 12 < n = omega arith in
    let far : 268 < n = omega arith in
    rw (lt-leb n 12 past, lt-leb n 268 far) (omega arith)

pub data Counted (n : ℕ) : Type 0 where
  NoTable : n ≤ 12 → tables n ≡ 0 → Counted n
  OneTable : 12 < n → n ≤ 268 → tables n ≡ 1 → Counted n
  MoreTables : (j p : ℕ) → n ≡ 268 + 256 * j + p + 1 → p < 256 → tables n ≡ 3 + j → Counted n

counted : (n : ℕ) → Counted n
counted n = elim (cases_lt 12 n) [
  | inr few ↦ NoTable few (no_tables n few)
  | inl many ↦ elim (cases_lt 268 n) [
    | inr few ↦ OneTable many few (one_table n many few)
    | inl more ↦
        let at : n ≡ 268 + 256 * ((n - 269) / 256) + (n - 269) % 256 + 1 = omega arith in
        let small : (n - 269) % 256 < 256 = omega arith in
        MoreTables ((n - 269) / 256) ((n - 269) % 256) at small (more_tables n ((n - 269) / 256) ((n - 269) % 256) at small)
  ]
]

-- each block brings its new tables, two at most
pub tables_grow : (geo : Geometry) (n : ℕ) → n < most_blocks geo → tables (n + 1) ≡ length (new_tables geo n) + tables n
tables_grow geo n low = elim (new geo n low) [
  | NoNew none list ↦
      let count = ap length list in
      elim (standing geo n) [
        | Direct few t f ↦ let here = no_tables n (omega arith) in let there = no_tables (n + 1) (omega arith) in omega arith
        | Middle from few t p f ↦
            let before = none (most_blocks geo) (Next t) in
            let early = (first_stands geo).0 in
            let here = one_table n (omega arith) (omega arith) in
            let there = one_table (n + 1) (omega arith) (omega arith) in
            omega arith
        | Deep j p at small few t place f ↦
            let before = none (most_blocks geo + 2 + j) (Next t) in
            let early = (second_stands geo j).0 in
            let here = more_tables n j (p - 1) (omega arith) (omega arith) in
            let there = more_tables (n + 1) j p (omega arith) small in
            omega arith
        | First at t f ↦ absurd (omega arith)
        | Double at t f ↦ absurd (omega arith)
        | Second j at t p f ↦ absurd (omega arith)
      ]
  | OneNew m one is before list ↦
      let count = ap length list in
      elim (standing geo n) [
        | Direct few t f ↦ absurd (none-some m (sym t ∙ one))
        | Middle from few t p f ↦
            let same = ap (first_block geo) (same_Some (most_blocks geo) m (sym t ∙ one)) in
            let early = (first_stands geo).0 in
            let here = no_tables n (omega arith) in
            let there = one_table (n + 1) (omega arith) (omega arith) in
            omega arith
        | Deep j p at small few t place f ↦
            let same = same_Some (most_blocks geo + 2 + j) m (sym t ∙ one) in
            let same_first = ap (first_block geo) same in
            let early = (second_stands geo j).0 in
            let double = (double_stands geo).0 in
            let later = before (most_blocks geo + 1) (ap (table_of geo) (sym same) ∙ (second_stands geo j).1) in
            let here = more_tables n (j - 1) 255 (omega arith) (omega arith) in
            let there = more_tables (n + 1) j 0 (omega arith) (omega arith) in
            omega arith
        | First at t f ↦ absurd (omega arith)
        | Double at t f ↦ absurd (omega arith)
        | Second j at t p f ↦ absurd (omega arith)
      ]
  | TwoNew m u one two is also list ↦
      let count = ap length list in
      elim (standing geo n) [
        | Direct few t f ↦ absurd (none-some m (sym t ∙ one))
        | Middle from few t p f ↦ absurd (none-some u (sym (first_stands geo).1 ∙ ap (table_of geo) (same_Some (most_blocks geo) m (sym t ∙ one)) ∙ two))
        | Deep j p at small few t place f ↦
            let same = ap (first_block geo) (same_Some (most_blocks geo + 2 + j) m (sym t ∙ one)) in
            let early = (second_stands geo j).0 in
            let double = (double_stands geo).0 in
            let same_double = ap (first_block geo) (same_Some (most_blocks geo + 1) u (sym (second_stands geo j).1 ∙ ap (table_of geo) (same_Some (most_blocks geo + 2 + j) m (sym t ∙ one)) ∙ two)) in
            let here = one_table n (omega arith) (omega arith) in
            let there = more_tables (n + 1) 0 0 (omega arith) (omega arith) in
            omega arith
        | First at t f ↦ absurd (omega arith)
        | Double at t f ↦ absurd (omega arith)
        | Second j at t p f ↦ absurd (omega arith)
      ]
]

pub new_few : (geo : Geometry) (n : ℕ) → n < most_blocks geo → length (new_tables geo n) ≤ 2
new_few geo n low = elim (new geo n low) [
  | NoNew none list ↦ let count = ap length list in omega arith
  | OneNew m one is before list ↦ let count = ap length list in omega arith
  | TwoNew m t one two is also list ↦ let count = ap length list in omega arith
]

-- the tables of a file stand one behind the other
pub tables_range : (geo : Geometry) (n k : ℕ) → n ≤ most_blocks geo → most_blocks geo ≤ k → IsTrue (reaches geo n k) ↔ (k < most_blocks geo + tables n)
tables_range geo n k low past = (there, back)
  where
    there : IsTrue (reaches geo n k) → k < most_blocks geo + tables n
    there r =
        let p = and_parts (ltb k (position_count geo)) (ltb (first_block geo k) n) r in
        let few = ltb-true (first_block geo k) n p.1 in
        let num = (numbers geo).1 in
        elim (counted n) [
          | NoTable none is ↦ elim (standing geo k) [
            | Direct few t f ↦ omega arith
            | Middle from few t p f ↦ omega arith
            | Deep j p at small few t place f ↦ omega arith
            | First at t f ↦ omega arith
            | Double at t f ↦ omega arith
            | Second j at t p f ↦ omega arith
          ]
          | OneTable some none is ↦ elim (standing geo k) [
            | Direct few t f ↦ omega arith
            | Middle from few t p f ↦ omega arith
            | Deep j p at small few t place f ↦ omega arith
            | First at t f ↦ omega arith
            | Double at t f ↦ omega arith
            | Second j at t p f ↦ omega arith
          ]
          | MoreTables i q at2 small2 is ↦ elim (standing geo k) [
            | Direct few t f ↦ omega arith
            | Middle from few t p f ↦ omega arith
            | Deep j p at small few t place f ↦ omega arith
            | First at t f ↦ omega arith
            | Double at t f ↦ omega arith
            | Second j at t p f ↦ omega arith
          ]
        ]

    reached : k < position_count geo → first_block geo k < n → IsTrue (reaches geo n k)
    reached inside few = and_from (ltb k (position_count geo)) (ltb (first_block geo k) n) (lt-ltb k (position_count geo) inside) (lt-ltb (first_block geo k) n few)

    back : k < most_blocks geo + tables n → IsTrue (reaches geo n k)
    back few =
        let num = (numbers geo).1 in
        elim (counted n) [
          | NoTable none is ↦ absurd (omega arith)
          | OneTable some none is ↦ elim (standing geo k) [
            | Direct few t f ↦ absurd (omega arith)
            | Middle from few t p f ↦ absurd (omega arith)
            | Deep j p at small few t place f ↦ absurd (omega arith)
            | First at t f ↦ reached (omega arith) (omega arith)
            | Double at t f ↦ absurd (omega arith)
            | Second j at t p f ↦ absurd (omega arith)
          ]
          | MoreTables i q at2 small2 is ↦ elim (standing geo k) [
            | Direct few t f ↦ absurd (omega arith)
            | Middle from few t p f ↦ absurd (omega arith)
            | Deep j p at small few t place f ↦ absurd (omega arith)
            | First at t f ↦ reached (omega arith) (omega arith)
            | Double at t f ↦ reached (omega arith) (omega arith)
            | Second j at t p f ↦ reached (omega arith) (omega arith)
          ]
        ]

-- a file whose pointers all stand in its record has no table
pub few_none : (geo : Geometry) (n k : ℕ) → n ≤ direct_positions → IsTrue (is_table geo k) → IsTrue (reaches geo n k) → ⊥
few_none geo n k few table h =
    let past : most_blocks geo ≤ k = leb-true (most_blocks geo) k table in
    let below = (tables_range geo n k (omega (arith, few, many_blocks geo)) past).0 h in
    omega (arith, below, past, no_tables n few)
