use Rattle.std.proofs.Common.{◌≡◌, ◌≤◌, ◌^◌}
use Rattle.left_images.proofs.choosing.ways.Given as goal

abbrev pub invariant-loop-at : goal.invariant-loop-at
invariant-loop-at l = record {
  is : l.ways ≡ 2 ^ l.at;
  few : l.ways ≤ l.fn.most;
}
