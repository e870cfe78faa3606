use Rattle.std.proofs.Common.{◌≡◌, ◌++◌, drop}
use Rattle.fuse_wire.specs.Fields.{numbers}
use Rattle.fuse_wire.proofs.fields.put_words.Given as goal

abbrev pub invariant-loop-number : goal.invariant-loop-number
invariant-loop-number l = l.initial.out.items ++ numbers 4 l.all ≡ l.out.items ++ numbers 4 (drop l.number-index l.all)
