use Rattle.std.proofs.Common.{◌≡◌}
use Rattle.phase_names.specs.Entries.{entries_below}
use Rattle.phase_names.proofs.entries.reached_entries.Given as goal

abbrev pub invariant-loop-directory : goal.invariant-loop-directory
invariant-loop-directory l = l.entries.items ≡ entries_below l.whole l.reached l.directory
