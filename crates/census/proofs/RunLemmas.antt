-- The longest run of free blocks, as far as a loop over all addresses has come.
use Rattle.std.proofs.Common.{◌≡◌, ◌<◌, ◌≤◌, ◌+◌, ◌-◌, ℕ, zero, suc, Bool, true, false, not, ◌&&◌, max, inl, inr, sym, ◌∙◌, subst, arith}
use Rattle.std.proofs.lemmas.Bool.{and_parts, and_from, cases_lt, not-true, not_from_false, false≢true}
use Rattle.model.proofs.Addresses.{data_range}
use Rattle.model.specs.Layout.{Geometry, IsGeometry, block_count, is_data_address}
use Rattle.model.specs.View.{View}
use Rattle.machine.specs.Room.{IsFreeBlock}
use Rattle.census.specs.Runs.{IsFreeRun, IsLongestRun}

-- so many stand right before address a, and no more do
pub record EndsRun (geo : Geometry) (view : View) (a n : ℕ) : Type 0 where
  pub below : n ≤ a
  pub free : IsFreeRun geo view (a - n) n
  pub most : (b m : ℕ) → b + m ≡ a → IsFreeRun geo view b m → m ≤ n

-- and so many somewhere below it
pub record IsLongestBelow (geo : Geometry) (view : View) (a n : ℕ) : Type 0 where
  pub first : ℕ
  pub free : IsFreeRun geo view first n
  pub few : n ≤ a
  pub most : (b m : ℕ) → b + m ≤ a → IsFreeRun geo view b m → m ≤ n

module _ (geo : Geometry) (view : View) where
  abbrev may_be : ℕ → Bool
  may_be a = is_data_address geo a && not (view.block_marked a)

  free_block : (a : ℕ) → may_be a ≡ true → IsFreeBlock geo view a
  free_block a is =
      let parts = and_parts (is_data_address geo a) (not (view.block_marked a)) is in
      record { address = parts.0; unmarked = not-true (view.block_marked a) parts.1 }

  is_free : (a : ℕ) → IsFreeBlock geo view a → may_be a ≡ true
  is_free a free = and_from (is_data_address geo a) (not (view.block_marked a)) free.address (not_from_false (view.block_marked a) free.unmarked)

  pub none_before : EndsRun geo view 0 0
  none_before = record { below = omega arith; free = λ k low. absurd (omega (arith, low)); most = λ b m e run. omega (arith, e) }

  pub none_below : IsLongestBelow geo view 0 0
  none_below = record { first = 0; free = λ k low. absurd (omega (arith, low)); few = omega arith; most = λ b m e run. omega (arith, e) }

  pub runs_on : (a n : ℕ) → may_be a ≡ true → EndsRun geo view a n → EndsRun geo view (a + 1) (n + 1)
  runs_on a n is ends = record {
    below = omega (arith, ends.below);
    free = λ k low. elim (cases_lt k n) [
      | inl below ↦ (let e : (a - n) + k ≡ ((a + 1) - (n + 1)) + k = omega (arith, ends.below) in subst (IsFreeBlock geo view) e (ends.free k below))
      | inr above ↦ (let e : a ≡ ((a + 1) - (n + 1)) + k = omega (arith, ends.below, above, low) in subst (IsFreeBlock geo view) e (free_block a is))
    ];
    most = longer;
  }
    where
      longer : (b m : ℕ) → b + m ≡ a + 1 → IsFreeRun geo view b m → m ≤ n + 1
      longer b zero e run = omega arith
      longer b (suc m) e run = omega (arith, ends.most b m (omega (arith, e)) (λ k low. run k (omega (arith, low))))

  pub run_ends : (a : ℕ) → may_be a ≡ false → EndsRun geo view (a + 1) 0
  run_ends a is = record {
    below = omega arith;
    free = λ k low. absurd (omega (arith, low));
    most = none;
  }
    where
      none : (b m : ℕ) → b + m ≡ a + 1 → IsFreeRun geo view b m → m ≤ 0
      none b zero e run = omega arith
      none b (suc m) e run =
          let last : b + m ≡ a = omega (arith, e) in
          let free : IsFreeBlock geo view a = subst (IsFreeBlock geo view) last (run m (omega arith)) in
          absurd (false≢true (sym is ∙ is_free a free))

  -- the longer one of two
  pub longest_of : (a n m : ℕ) → IsLongestBelow geo view a n → EndsRun geo view (a + 1) m → IsLongestBelow geo view (a + 1) (max n m)
  longest_of a n m longest ends = elim (cases_lt n m) [
    | inl less ↦ (let e : m ≡ max n m = omega (arith, less) in subst (IsLongestBelow geo view (a + 1)) e (record {
      first = (a + 1) - m;
      free = ends.free;
      few = ends.below;
      most = λ b k within run. elim (cases_lt (b + k) (a + 1)) [
        | inl low ↦ omega (arith, less, longest.most b k (omega (arith, low)) run)
        | inr high ↦ ends.most b k (omega (arith, within, high)) run
      ];
    }))
    | inr more ↦ (let e : n ≡ max n m = omega (arith, more) in subst (IsLongestBelow geo view (a + 1)) e (record {
      first = longest.first;
      free = longest.free;
      few = omega (arith, longest.few);
      most = λ b k within run. elim (cases_lt (b + k) (a + 1)) [
        | inl low ↦ longest.most b k (omega (arith, low)) run
        | inr high ↦ omega (arith, more, ends.most b k (omega (arith, within, high)) run)
      ];
    }))
  ]

  -- below all addresses it is the longest of all
  pub longest_of_all : IsGeometry geo → (a n : ℕ) → block_count geo ≤ a → IsLongestBelow geo view a n → IsLongestRun geo view n
  longest_of_all ok a n all longest = record { first = longest.first; free = longest.free; most = most }
    where
      most : (b m : ℕ) → IsFreeRun geo view b m → m ≤ n
      most b zero run = omega arith
      most b (suc m) run =
          let last : b + m < block_count geo = (data_range geo ok (b + m) (run m (omega arith)).address).1 in
          longest.most b (suc m) (omega (arith, last, all)) run
