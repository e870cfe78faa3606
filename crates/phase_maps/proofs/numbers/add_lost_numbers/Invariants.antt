use Rattle.std.proofs.Common.{◌≡◌, ◌++◌}
use Rattle.findings.specs.Numbers.{lost_below}
use Rattle.frozen.specs.Kept.{frozen_view}
use Rattle.phase_maps.proofs.numbers.add_lost_numbers.Given as goal

abbrev pub invariant-loop-number : goal.invariant-loop-number
invariant-loop-number l = l.found.items ≡ l.fn.found.items ++ lost_below l.frozen.geometry (frozen_view l.frozen) l.number
