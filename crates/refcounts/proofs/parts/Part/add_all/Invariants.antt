use Rattle.std.proofs.Common.{◌≡◌, length, take}
use Rattle.refcounts.specs.Parts.{Grow}
use Rattle.refcounts.proofs.parts.Part.add_all.Given as goal

abbrev pub invariant-loop-number : goal.invariant-loop-number
invariant-loop-number l = record {
  all : length l.self ≡ length l.fn.self;
  grown : Grow l.geometry (take l.number-index l.numbers) l.fn.self l.self;
}
