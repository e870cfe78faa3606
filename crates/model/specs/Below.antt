-- What passes a test below a bound.
use Rattle.std.specs.Prelude.{ℕ, zero, suc, Bool, false, ◌||◌, List, [], ◌∷◌, ◌++◌, if◌then◌else◌}

-- what make gives of the numbers below n that pass the test, in order
unfoldable pub found_below : {K : Type 0} → (ℕ → Bool) → (ℕ → K) → ℕ → List K
found_below test make zero = []
found_below test make (suc n) = if test n then found_below test make n ++ make n ∷ [] else found_below test make n

-- some number below n passes
unfoldable pub any_below : ℕ → (ℕ → Bool) → Bool
any_below zero p = false
any_below (suc n) p = any_below n p || p n
