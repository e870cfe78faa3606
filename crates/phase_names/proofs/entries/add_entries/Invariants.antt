use Rattle.std.proofs.Common.{◌≡◌, ◌++◌, take}
use Rattle.phase_names.specs.Entries.{entries_from}
use Rattle.phase_names.proofs.entries.add_entries.Given as goal

abbrev pub invariant-loop-naming : goal.invariant-loop-naming
invariant-loop-naming l = l.entries.items ≡ l.fn.entries.items ++ entries_from l.directory (take l.naming-index l.namings)
