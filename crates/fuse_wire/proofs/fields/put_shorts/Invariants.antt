use Rattle.std.proofs.Common.{◌≡◌, ◌++◌, drop}
use Rattle.fuse_wire.specs.Fields.{numbers}
use Rattle.fuse_wire.proofs.fields.put_shorts.Given as goal

abbrev pub invariant-loop-number : goal.invariant-loop-number
invariant-loop-number l = l.initial.out.items ++ numbers 2 l.all ≡ l.out.items ++ numbers 2 (drop l.number-index l.all)
