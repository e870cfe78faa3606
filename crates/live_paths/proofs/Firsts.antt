-- The first number below a bound that passes a test.
use Rattle.std.proofs.Common.{◌≡◌, ◌<◌, ℕ, zero, suc, Bool, true, false, inl, inr, refl, sym, ap, ap₂, ◌∙◌, subst, arith, Some, None}
use Rattle.std.specs.Bool.{then_some}
use Rattle.std.specs.Option.{option_or}
use Rattle.std.proofs.lemmas.Bool.{cases_eq}
use Rattle.machine.specs.Below.{first_below}

pub first_none : (n : ℕ) (p : ℕ → Bool) → ((k : ℕ) → k < n → p k ≡ false) → first_below n p ≡ None
unfolding first_below
first_none zero p h = refl
first_none (suc n) p h = ap₂ (λ o b. option_or o (then_some b n)) (first_none n p (λ k b. h k (omega arith))) (h n (omega arith))

pub first_here : (n : ℕ) (p : ℕ → Bool) (k : ℕ) → k < n → p k ≡ true → ((j : ℕ) → j < k → p j ≡ false) → first_below n p ≡ Some k
unfolding first_below
first_here zero p k b t h = absurd (omega (arith, b))
first_here (suc n) p k b t h = elim (cases_eq k n) [
  | inl e ↦ ap₂ (λ o x. option_or o (then_some x n)) (first_none n p (λ j c. h j (omega arith))) (subst (λ j. p j ≡ true) e t) ∙ ap Some (sym e)
  | inr differs ↦ ap (λ o. option_or o (then_some (p n) n)) (first_here n p k (omega arith) t h)
]

pub first_same : (n : ℕ) (p q : ℕ → Bool) → ((k : ℕ) → p k ≡ q k) → first_below n p ≡ first_below n q
unfolding first_below
first_same zero p q h = refl
first_same (suc n) p q h = ap₂ (λ o b. option_or o (then_some b n)) (first_same n p q h) (h n)
