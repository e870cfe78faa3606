use Rattle.std.proofs.Common.{◌≤◌, take}
use Rattle.left_images.proofs.JudgedLemmas.{AreLoose}
use Rattle.left_images.proofs.judging.loose_after.Given as goal

abbrev pub invariant-loop-at : goal.invariant-loop-at
invariant-loop-at l = record {
  few : l.loose ≤ l.at;
  are : AreLoose (take l.at l.fn.steps) l.loose;
}
