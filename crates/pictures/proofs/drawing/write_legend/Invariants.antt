use Rattle.std.proofs.Common.{◌≡◌}
use Rattle.pictures.proofs.drawing.write_legend.Given as goal

abbrev pub invariant-loop-shown : goal.invariant-loop-shown
invariant-loop-shown l = l.place ≡ l.shown-index
