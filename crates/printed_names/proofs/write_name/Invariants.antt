use Rattle.std.proofs.Common.{◌≡◌, ◌++◌, take}
use Rattle.printed_names.specs.Names.{written}
use Rattle.printed_names.proofs.write_name.Given as goal

abbrev pub invariant-loop-byte : goal.invariant-loop-byte
invariant-loop-byte l = l.text.items ≡ l.fn.text.items ++ written (take l.byte-index l.name)
