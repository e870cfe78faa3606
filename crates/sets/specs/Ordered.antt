-- Lists in order.
use Rattle.std.specs.Prelude.{◌≡◌}
use Rattle.std.specs.declared.cmp.Ordering.{Ordering}
use Rattle.std.specs.declared.cmp.Ordering.TheVariants.{Equal}

-- elements that compare as equal are the same
abbrev pub IsExact : {K : Type 0} → (K → K → Ordering) → Type 0
IsExact {K} cmp = (x y : K) → cmp x y ≡ Equal → x ≡ y
