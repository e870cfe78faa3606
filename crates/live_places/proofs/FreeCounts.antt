-- How many blocks may be given out below an address.
use Rattle.std.proofs.Common.{◌≡◌, ◌<◌, ◌≤◌, ◌+◌, ◌-◌, ℕ, suc, Bool, true, not, ◌&&◌, cond, inl, inr, refl, ap, ◌∙◌, arith, ltb, leb, ltb-true}
use Rattle.std.proofs.lemmas.Bool.{cases_Bool, cases_lt, cond-true, cond-false, and_parts, and_from, not_from_false, not-true}
use Rattle.model.specs.Layout.{Geometry, is_data_address, block_count, header_blocks, place_in_group}
use Rattle.model.specs.View.{View}
use Rattle.model.specs.Reach.{sum_below}
use Rattle.model.proofs.Sums.{sum-split, sum-none, sum_from}
use Rattle.machine.specs.Room.{IsFreeBlock, unmarked_blocks}
use Rattle.metadata.specs.Free.{IsNextBlock}
use Rattle.live_places.specs.Taken.{free_below}

-- ---- a sum between two bounds
sum_next : (n : ℕ) (f : ℕ → ℕ) → sum_below (n + 1) f ≡ sum_below n f + f n
unfolding sum_below
sum_next n f = let e : n + 1 ≡ suc n = omega arith in ap (λ m. sum_below m f) e

pub sum_zero : (f : ℕ → ℕ) → sum_below 0 f ≡ 0
unfolding sum_below
sum_zero f = refl

module _ (f : ℕ → ℕ) (m n : ℕ) (order : m ≤ n) where
  pub sum_to : sum_below n f ≡ sum_below m f + sum_from m (n - m) f
  sum_to = let e : n ≡ m + (n - m) = omega arith in ap (λ k. sum_below k f) e ∙ sum-split m (n - m) f

  pub sum_more : sum_below m f ≤ sum_below n f
  sum_more = omega (arith, sum_to)

  pub sum_no_more : ((k : ℕ) → m ≤ k → k < n → f k ≡ 0) → sum_below n f ≡ sum_below m f
  sum_no_more none =
      let rest : sum_from m (n - m) f ≡ 0 = sum-none (n - m) (λ k. f (m + k)) (λ k b. none (m + k) (omega arith) (omega arith)) in
      omega (arith, sum_to, rest)

-- ---- the blocks that may be given out
module _ (geo : Geometry) (view : View) where
  abbrev may_be : ℕ → Bool
  may_be a = is_data_address geo a && not (view.block_marked a)

  abbrev one : ℕ → ℕ
  one a = cond (may_be a) 1 0

  pub free_is : (a : ℕ) → may_be a ≡ true → IsFreeBlock geo view a
  free_is a is = let parts = and_parts (is_data_address geo a) (not (view.block_marked a)) is in record { address = parts.0; unmarked = not-true (view.block_marked a) parts.1 }

  one_free : (a : ℕ) → IsFreeBlock geo view a → one a ≡ 1
  one_free a free = cond-true (may_be a) 1 0 (and_from (is_data_address geo a) (not (view.block_marked a)) free.address (not_from_false (view.block_marked a) free.unmarked))

  none_at : (a : ℕ) → (IsFreeBlock geo view a → ⊥) → one a ≡ 0
  none_at a h = elim (cases_Bool (may_be a)) [
    | inl t ↦ absurd (h (free_is a t))
    | inr f ↦ cond-false (may_be a) 1 0 f
  ]

  pub address_below : (a : ℕ) → IsFreeBlock geo view a → a < block_count geo
  address_below a free =
      let parts = and_parts (ltb 0 a && ltb a (block_count geo)) (leb (header_blocks geo) (place_in_group geo a)) free.address in
      ltb-true a (block_count geo) (and_parts (ltb 0 a) (ltb a (block_count geo)) parts.0).1

  past_none : (a : ℕ) → block_count geo ≤ a → one a ≡ 0
  past_none a high = none_at a (λ free. omega (arith, address_below a free))

  -- below any address there are no more than there are
  pub among_all : (n : ℕ) → free_below geo view n ≤ unmarked_blocks geo view
  among_all n = elim (cases_lt n (block_count geo)) [
    | inl below ↦ sum_more one n (block_count geo) (omega arith)
    | inr above ↦ omega (arith, sum_no_more one (block_count geo) n above (λ k low high. past_none k low))
  ]

  pub none_below : free_below geo view 0 ≡ 0
  none_below = sum_zero one

  -- the next one counts one more
  pub next_counts : (from a : ℕ) → IsNextBlock geo view from a → free_below geo view (a + 1) ≡ free_below geo view from + 1
  next_counts from a next =
      let same : free_below geo view a ≡ free_below geo view from =
      sum_no_more one from a next.above (λ k low high. none_at k (λ free. omega (arith, next.least k low free))) in
      omega (arith, sum_next a one, one_free a next.free, same)

  -- where there is no next one, all were counted
  pub none_left : (from : ℕ) → ((a : ℕ) → from ≤ a → IsFreeBlock geo view a → ⊥) → unmarked_blocks geo view ≤ free_below geo view from
  none_left from none = elim (cases_lt from (block_count geo)) [
    | inl below ↦ omega (arith, sum_no_more one from (block_count geo) (omega arith) (λ k low high. none_at k (none k low)))
    | inr above ↦ sum_more one (block_count geo) from above
  ]
