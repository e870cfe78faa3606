use Rattle.std.proofs.Common.{◌≡◌, ◌≤◌, ℕ, List, [], ◌∷◌, length, Option, refl, ◌∙◌, arith}
use Rattle.frozen.specs.Kept.{Kept}
use Rattle.machine.specs.Standing.{Standing}
use Rattle.live_states.specs.Snapshots.{places}
use Rattle.live_holdings.specs.Numbers.{number_over}
use Rattle.live_holdings.proofs.standing.numbers_of.Goals as goal

-- the four places, whatever stands
places_are : (xs : List (Standing Kept)) → length xs ≤ 4 → number_over xs 0 ∷ number_over xs 1 ∷ number_over xs 2 ∷ number_over xs 3 ∷ [] ≡ places xs
places_are [] few = refl
places_are (a ∷ []) few = refl
places_are (a ∷ b ∷ []) few = refl
places_are (a ∷ b ∷ c ∷ []) few = refl
places_are (a ∷ b ∷ c ∷ d ∷ []) few = refl
places_are (a ∷ b ∷ c ∷ d ∷ e ∷ xs) few = absurd (omega (arith, few))

each : (a b c d p q r s : Option ℕ) → a ≡ p → b ≡ q → c ≡ r → d ≡ s → a ∷ b ∷ c ∷ d ∷ [] ≡ p ∷ q ∷ r ∷ s ∷ []
each a b c d p q r s e f g h = cc

pub returns : goal.returns
returns c =
    let xs = c.args.standing.now in
    each c.number_over.result c.number_over-2.result c.number_over-3.result c.number_over-4.result (number_over xs 0) (number_over xs 1) (number_over xs 2) (number_over xs 3)
    c.number_over.ensures c.number_over-2.ensures c.number_over-3.ensures c.number_over-4.ensures
    ∙ places_are xs c.requires
