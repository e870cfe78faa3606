-- The words of a file's shape, where a number says which of their cases it is.
use Rattle.std.proofs.Common.{◌≡◌, ◌<◌, ◌≤◌, ◌+◌, ◌-◌, ◌*◌, ◌/◌, ◌%◌, ℕ, inl, inr, refl, arith, Some, None}
use Rattle.std.proofs.lemmas.Bool.{cases_lt, lt-ltb, le-ltb, eq-eqb, ne_eqb}
use Rattle.model.specs.Layout.{Geometry}
use Rattle.model.specs.Shape.{most_blocks, position_count, table_of, place_in_table, first_block, tables}
use Rattle.model.proofs.Shape.{numbers, reach_parts, some_table, tables_range}

-- ---- the numbers of each version
pub most_two : (geo : Geometry) → geo.version ≡ 2 → most_blocks geo ≡ 65804
unfolding most_blocks
most_two geo two = rw (eq-eqb geo.version 2 two) refl

pub most_one : (geo : Geometry) → (geo.version ≡ 2 → ⊥) → most_blocks geo ≡ 268
unfolding most_blocks
most_one geo one = rw (ne_eqb geo.version 2 one) refl

pub count_two : (geo : Geometry) → geo.version ≡ 2 → position_count geo ≡ 66062
unfolding position_count
count_two geo two = rw (eq-eqb geo.version 2 two) refl

pub count_one : (geo : Geometry) → (geo.version ≡ 2 → ⊥) → position_count geo ≡ 269
unfolding position_count
count_one geo one = rw (ne_eqb geo.version 2 one) refl

-- ---- the block with which a file begins to have a table
pub first_at : (geo : Geometry) (k : ℕ) → k ≡ most_blocks geo → first_block geo k ≡ 12
unfolding first_block
first_at geo k e = rw (le-ltb k (most_blocks geo) (omega (arith, e)), eq-eqb k (most_blocks geo) e) refl

pub first_behind : (geo : Geometry) (k : ℕ) → most_blocks geo < k → first_block geo k ≡ 268 + 256 * (k - (most_blocks geo + 2))
unfolding first_block
first_behind geo k far = rw (le-ltb k (most_blocks geo) (omega (arith, far)), ne_eqb k (most_blocks geo) (λ e. omega (arith, far, e))) refl

-- ---- the table of a position, and the place there
pub middle_table : (geo : Geometry) (k : ℕ) → 12 ≤ k → k < 268 → table_of geo k ≡ Some (most_blocks geo)
unfolding table_of
middle_table geo k high low = rw (le-ltb k 12 high, lt-ltb k 268 low) refl

pub middle_place : (geo : Geometry) (k : ℕ) → k < 268 → place_in_table geo k ≡ k - 12
unfolding place_in_table
middle_place geo k low = rw (lt-ltb k 268 low) refl

pub deep_table : (geo : Geometry) (k : ℕ) → 268 ≤ k → k < most_blocks geo → table_of geo k ≡ Some (most_blocks geo + 2 + (k - 268) / 256)
unfolding table_of
deep_table geo k high low = rw (le-ltb k 12 (omega (arith, high)), le-ltb k 268 high, lt-ltb k (most_blocks geo) low) refl

pub deep_place : (geo : Geometry) (k : ℕ) → 268 ≤ k → k < most_blocks geo → place_in_table geo k ≡ (k - 268) % 256
unfolding place_in_table
deep_place geo k high low = rw (le-ltb k 268 high, lt-ltb k (most_blocks geo) low) refl

pub last_table : (geo : Geometry) (k : ℕ) → most_blocks geo ≤ k → k < most_blocks geo + 2 → table_of geo k ≡ None
unfolding table_of
last_table geo k high low =
    let most = (numbers geo).1.most in
    rw (le-ltb k 12 (omega (arith, high, most)), le-ltb k 268 (omega (arith, high, most)), le-ltb k (most_blocks geo) high, lt-ltb k (most_blocks geo + 2) low) refl

pub second_table : (geo : Geometry) (k : ℕ) → most_blocks geo + 2 ≤ k → table_of geo k ≡ Some (most_blocks geo + 1)
unfolding table_of
second_table geo k high =
    let most = (numbers geo).1.most in
    rw (le-ltb k 12 (omega (arith, high, most)), le-ltb k 268 (omega (arith, high, most)), le-ltb k (most_blocks geo) (omega (arith, high)), le-ltb k (most_blocks geo + 2) high) refl

pub second_place : (geo : Geometry) (k : ℕ) → most_blocks geo + 2 ≤ k → place_in_table geo k ≡ k - (most_blocks geo + 2)
unfolding place_in_table
second_place geo k high =
    let most = (numbers geo).1.most in
    rw (le-ltb k 268 (omega (arith, high, most)), le-ltb k (most_blocks geo) (omega (arith, high))) refl

-- ---- how many tables there are
pub tables_inside : (geo : Geometry) (n : ℕ) → n ≤ most_blocks geo → most_blocks geo + tables n ≤ position_count geo
tables_inside geo n few = elim (cases_lt 0 (tables n)) [
  | inl some ↦
      let last : ℕ = most_blocks geo + (tables n - 1) in
      let reached = (tables_range geo n last few (omega arith)).1 (omega (arith, some)) in
      let inside = (reach_parts geo n last reached).0 in
      omega (arith, inside, some)
  | inr none ↦ omega (arith, none, some_table geo)
]

pub positions_few : (geo : Geometry) → position_count geo ≤ 66062
positions_few geo = let num = (numbers geo).1 in omega (arith, num.most, num.few, num.last)
