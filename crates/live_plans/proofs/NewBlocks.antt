-- The new blocks of a directory that grows: the block for the entry, and the tables that were chosen.
use Rattle.std.proofs.Common.{◌≡◌, ℕ, List, ◌∷◌, sym, subst}
use Rattle.model.specs.Layout.{Geometry}
use Rattle.model.specs.View.{View}
use Rattle.plans_data.specs.Append.{AreApart, Holder, IsNoneOf, new_blocks}
use Rattle.plans_data.specs.Plans.{IsChoice}
use Rattle.plans_naming.specs.Grow.{AreOther}
use Rattle.live_places.specs.Chosen.{IsOther}
use Rattle.live_places.specs.declared.choosing.Place.TheVariants.{NewBlock}

-- they are apart
pub are_apart : (geo : Geometry) (view : View) (k block : ℕ) (tables : List ℕ) (kept : Holder) → new_blocks kept ≡ tables → IsChoice geo view k block tables → AreApart (block ∷ new_blocks kept)
are_apart geo view k block tables kept is choice = subst (λ xs. AreApart (block ∷ xs)) (sym is) choice.apart

-- and others than one that is none of those that were chosen
pub others : (a block : ℕ) (tables : List ℕ) (kept : Holder) → new_blocks kept ≡ tables → IsOther (NewBlock block tables) a → AreOther a block kept
others a block tables kept is other = subst (λ xs. IsNoneOf a (block ∷ xs)) (sym is) other
