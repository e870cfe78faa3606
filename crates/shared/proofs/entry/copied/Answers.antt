use Rattle.std.proofs.Common.{arith}
use Rattle.std.proofs.lemmas.Grind.{common_steps}
use Rattle.std.proofs.lemmas.List.{map-append}
use Rattle.shared.proofs.entry.copied.Goals as goal

pub loop-named-preserved : goal.loop-named-preserved
loop-named-preserved c = grind (arith, common_steps, map-append)
