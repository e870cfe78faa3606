use Rattle.model.specs.Growth.{Adds}
use Rattle.phase_names.specs.Entries.{AtBelow, IsWithoutParent}
use Rattle.phase_names.proofs.whole.add_without_parent.Given as goal

abbrev pub invariant-loop-directory : goal.invariant-loop-directory
invariant-loop-directory l = Adds (AtBelow (IsWithoutParent l.whole l.reached l.held.keys) l.directory) l.fn.found.items l.found.items
