use Rattle.std.proofs.Common.{◌≡◌, ◌∙◌, refl, below_more}
use Rattle.model.specs.Slots as model
use Rattle.dirent.specs.declared.Slot.{Slot}
use Rattle.dirent.specs.declared.Slot.TheVariants.{Empty, Good, Bad}
use Rattle.dirent.specs.Seen.{seen}
use Rattle.dirent.proofs.Slots.free_slot.Goals as goal

-- a slot that is seen empty is empty
seen_empty : (slot : Slot) → seen slot ≡ model.Empty → slot ≡ Empty
seen_empty Empty e = refl
seen_empty (Good number name) e = cc
seen_empty Bad e = cc

pub loop-j-preserved : goal.loop-j-preserved
loop-j-preserved c = below_more _ _ c.loop-j.invariant (λ e. c.in_default.not-Empty (seen_empty c.slot.result (c.slot.ensures ∙ e)))
