use Rattle.left_images.specs.Judged.{IsWorst}
use Rattle.left_images.proofs.judging.cut_at.Given as goal

abbrev pub invariant-loop-number : goal.invariant-loop-number
invariant-loop-number g l = IsWorst g.J.Judge.tells l.fn.device l.fn.steps l.fn.most l.number l.worst
