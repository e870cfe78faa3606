use Rattle.std.proofs.Common.{ℕ, ◌<◌}
use Rattle.dirent.specs.DirectoryBlock.{slot_at, HasName}
use Rattle.dirent.proofs.Slots.find.Given as goal

-- no slot before this one has the name
abbrev pub invariant-loop-j : goal.invariant-loop-j
invariant-loop-j l = (k : ℕ) → k < l.j → ¬ HasName l.name (slot_at l.self k)
