use Rattle.std.proofs.Common.{◌≡◌, length, take}
use Rattle.refcounts.specs.Counts.{AreCounts}
use Rattle.refcounts.proofs.CountLemmas.{AreOf}
use Rattle.refcounts.proofs.counting.counts.Given as goal

abbrev pub invariant-loop-part : goal.invariant-loop-part
invariant-loop-part l = record { places : length l.counts ≡ l.frozen.geometry.inodes; fits : AreCounts l.counts; of : AreOf l.frozen.geometry l.unit (take l.part-index l.parts) l.counts }
