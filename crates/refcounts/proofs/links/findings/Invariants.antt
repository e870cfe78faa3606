use Rattle.std.proofs.Common.{[]}
use Rattle.frozen.specs.Kept.{frozen_view}
use Rattle.model.specs.Growth.{Adds}
use Rattle.model.proofs.GroupNumbers.{AreNumbersFrom}
use Rattle.refcounts.specs.Links.{IsFoundAmong}
use Rattle.refcounts.proofs.LinkLemmas.{In}
use Rattle.refcounts.proofs.links.findings.Given as goal

abbrev pub invariant-loop-number : goal.invariant-loop-number
invariant-loop-number l = record {
  found : Adds (IsFoundAmong l.frozen.geometry (frozen_view l.frozen) l.reached l.counts (In l.frozen.geometry (frozen_view l.frozen) l.reached l.counts l.unit l.number-iterator.start)) [] l.found.items;
  numbers : AreNumbersFrom l.frozen.geometry l.unit l.number-iterator.start l.number-iterator.end;
}
