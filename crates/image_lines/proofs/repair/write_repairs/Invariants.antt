use Rattle.std.proofs.Common.{◌≡◌, ◌++◌, take}
use Rattle.std.specs.String.{string_bytes}
use Rattle.image_lines.specs.Repaired.{repair_lines}
use Rattle.image_lines.proofs.repair.write_repairs.Given as goal

abbrev pub invariant-loop-repair : goal.invariant-loop-repair
invariant-loop-repair l = string_bytes l.text ≡ string_bytes l.fn.text ++ repair_lines (take l.repair-index l.repairs)
