use Rattle.std.proofs.Common.{[]}
use Rattle.model.specs.Growth.{Adds}
use Rattle.phase_names.specs.Entries.{AtBelow, IsHeldAt}
use Rattle.phase_names.proofs.entries.held_by_parents.Given as goal

abbrev pub invariant-loop-entry : goal.invariant-loop-entry
invariant-loop-entry l = Adds (AtBelow (IsHeldAt l.whole l.entries) l.entry-index) [] l.held.keys
