use Rattle.model.specs.Growth.{Adds}
use Rattle.phase_names.specs.Entries.{AtBelow, IsFoundAlone}
use Rattle.phase_names.proofs.whole.add_alone.Given as goal

abbrev pub invariant-loop-directory : goal.invariant-loop-directory
invariant-loop-directory l = Adds (AtBelow (IsFoundAlone l.whole l.reached) l.directory) l.fn.found.items l.found.items
