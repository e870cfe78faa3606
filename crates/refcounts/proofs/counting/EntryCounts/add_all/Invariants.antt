use Rattle.std.proofs.Common.{◌≡◌, length, take}
use Rattle.refcounts.specs.Counts.{AreCounts, Counted}
use Rattle.refcounts.proofs.counting.EntryCounts.add_all.Given as goal

abbrev pub invariant-loop-number : goal.invariant-loop-number
invariant-loop-number l = record {
  all : length l.self ≡ length l.fn.self;
  counted : length l.fn.self ≡ l.geometry.inodes → Counted l.geometry l.group (take l.number-index l.numbers) l.fn.self l.self;
  fits : AreCounts l.fn.self → AreCounts l.self;
}
