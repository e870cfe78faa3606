use Rattle.std.proofs.Common.{below_more, arith}
use Rattle.dirent.proofs.Slots.find.Goals as goal

pub loop-j-preserved : goal.loop-j-preserved
loop-j-preserved c = below_more _ _ c.loop-j.invariant (λ h. let found = c.if-has_name.ensures.1 h in cc)

pub returns-clause-none : goal.returns-clause-none
returns-clause-none c = λ k h. c.loop-j.invariant k (omega arith)
