use Rattle.std.proofs.Common.{◌≡◌, ◌++◌, drop}
use Rattle.fuse_wire.specs.Fields.{numbers}
use Rattle.fuse_wire.proofs.fields.put_longs.Given as goal

abbrev pub invariant-loop-number : goal.invariant-loop-number
invariant-loop-number l = l.initial.out.items ++ numbers 8 l.all ≡ l.out.items ++ numbers 8 (drop l.number-index l.all)
