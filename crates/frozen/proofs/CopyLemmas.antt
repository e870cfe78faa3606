-- Copies of shared blocks hold what the blocks hold.
use Rattle.std.proofs.Common.{◌≡◌, ℕ, List, [], ◌∷◌, Option, Some, None, refl, ap, ap₂}
use Rattle.std.specs.List.{AllZip}
use Rattle.std.specs.Arc.{arc_value}
use Rattle.std.specs.Option.{option_map}
use Rattle.std.specs.declared.sync.Arc.{Arc}
use Rattle.std.specs.declared.alloc.Global.{Global}
use Rattle.frozen.specs.Shared.{shared_blocks}

abbrev Shared : Type 0
Shared = Arc (List ℕ) Global

-- R says of each place that a copy stands there, which holds the same
module _ (R : Option Shared → Option Shared → Type 0) (no_more : (y : Shared) → R None (Some y) → ⊥) (no_less : (x : Shared) → R (Some x) None → ⊥)
    (same : (x y : Shared) → R (Some x) (Some y) → arc_value y ≡ arc_value x) where
  holds_the_same : (x y : Option Shared) → R x y → option_map arc_value y ≡ option_map arc_value x
  holds_the_same None None r = refl
  holds_the_same None (Some y) r = absurd (no_more y r)
  holds_the_same (Some x) None r = absurd (no_less x r)
  holds_the_same (Some x) (Some y) r = ap (λ v. Some v) (same x y r)

  pub copies_hold_the_same : (xs ys : List (Option Shared)) → AllZip R xs ys → shared_blocks ys ≡ shared_blocks xs
  copies_hold_the_same [] [] all = refl
  copies_hold_the_same [] (y ∷ ys) all = absurd all
  copies_hold_the_same (x ∷ xs) [] all = absurd all
  copies_hold_the_same (x ∷ xs) (y ∷ ys) (here, there) = ap₂ (λ v vs. v ∷ vs) (holds_the_same x y here) (copies_hold_the_same xs ys there)
