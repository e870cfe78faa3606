use Rattle.std.proofs.Common.{drop, ◌∙◌, arith}
use Rattle.std.proofs.lemmas.Bool.{eq-eqb}
use Rattle.byteorder.specs.Numbers.{little_from-take}
use Rattle.inode.proofs.double_of.Goals as goal

pub returns-then-version-eq-DOUBLE : goal.returns-then-version-eq-DOUBLE
returns-then-version-eq-DOUBLE c = rw (eq-eqb c.args.version 2 c.if-version-eq-DOUBLE.true) (c.read_u32.ensures ∙ little_from-take 0 4 68 (drop 60 c.args.bytes.now) (omega arith))
