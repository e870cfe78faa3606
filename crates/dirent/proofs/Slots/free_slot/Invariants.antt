use Rattle.std.proofs.Common.{◌≡◌, ℕ, ◌<◌}
use Rattle.model.specs.Slots.{Empty}
use Rattle.dirent.specs.DirectoryBlock.{slot_at}
use Rattle.dirent.proofs.Slots.free_slot.Given as goal

-- no slot before this one is empty
abbrev pub invariant-loop-j : goal.invariant-loop-j
invariant-loop-j l = (k : ℕ) → k < l.j → ¬ (slot_at l.self k ≡ Empty)
