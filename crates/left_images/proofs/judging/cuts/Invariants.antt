use Rattle.std.proofs.Common.{◌≡◌, suc, length}
use Rattle.left_images.specs.Judged.{AreCutsFrom}
use Rattle.left_images.proofs.judging.cuts.Given as goal

abbrev pub invariant-loop-at : goal.invariant-loop-at
invariant-loop-at g l = record {
  count : length l.cuts.items ≡ suc l.at;
  are : AreCutsFrom g.J.Judge.tells l.fn.device l.fn.most 0 l.cuts.items;
}
