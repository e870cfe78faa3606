-- What is counted or looked for below a bound, where nothing stands behind an earlier one.
use Rattle.std.proofs.Common.{◌≡◌, ◌≤◌, ◌+◌, ◌-◌, ℕ, zero, suc, Bool, false, refl, ap, ap₂, ◌∙◌, arith, Option, Some, None, add-zero, add-suc}
use Rattle.std.specs.Bool.{then_some}
use Rattle.std.specs.Option.{option_or}
use Rattle.model.specs.Reach.{sum_below}
use Rattle.model.proofs.Sums.{sum-split, sum-none}
use Rattle.machine.specs.Below.{first_below}

pub sum_beyond : (n m : ℕ) (f : ℕ → ℕ) → n ≤ m → ((k : ℕ) → n ≤ k → f k ≡ 0) → sum_below m f ≡ sum_below n f
sum_beyond n m f more none =
    let e : m ≡ n + (m - n) = omega arith in
    ap (λ k. sum_below k f) e ∙ sum-split n (m - n) f
    ∙ ap (λ s. sum_below n f + s) (sum-none (m - n) (λ k. f (n + k)) (λ k b. none (n + k) (omega arith))) ∙ add-zero (sum_below n f)

or_none : (o : Option ℕ) → option_or o None ≡ o
or_none None = refl
or_none (Some x) = refl

first_past : (n j : ℕ) (p : ℕ → Bool) → ((k : ℕ) → n ≤ k → p k ≡ false) → first_below (n + j) p ≡ first_below n p
unfolding first_below
first_past n zero p none = ap (λ k. first_below k p) (add-zero n)
first_past n (suc j) p none =
    ap (λ k. first_below k p) (add-suc n j)
    ∙ ap₂ (λ o b. option_or o (then_some b (n + j))) (first_past n j p none) (none (n + j) (omega arith)) ∙ or_none (first_below n p)

pub first_beyond : (n m : ℕ) (p : ℕ → Bool) → n ≤ m → ((k : ℕ) → n ≤ k → p k ≡ false) → first_below m p ≡ first_below n p
first_beyond n m p more none = let e : m ≡ n + (m - n) = omega arith in ap (λ k. first_below k p) e ∙ first_past n (m - n) p none

pub first_same : (n : ℕ) (p q : ℕ → Bool) → ((k : ℕ) → p k ≡ q k) → first_below n p ≡ first_below n q
unfolding first_below
first_same zero p q same = refl
first_same (suc n) p q same = ap₂ (λ o b. option_or o (then_some b n)) (first_same n p q same) (same n)
