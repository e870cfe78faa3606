use Rattle.std.proofs.Common.{◌≡◌, ◌++◌, []}
use Rattle.frozen.specs.Kept.{frozen_view}
use Rattle.findings.specs.declared.finding.Finding.TheVariants.{LostInode}
use Rattle.findings.specs.Numbers.{found_below}
use Rattle.connectivity.specs.Walk.{is_lost_among}
use Rattle.connectivity.proofs.lost.findings.Given as goal

abbrev pub invariant-loop-number : goal.invariant-loop-number
invariant-loop-number l = l.found.items ≡ [] ++ found_below (is_lost_among l.frozen.geometry (frozen_view l.frozen) l.reached) LostInode l.number
