use Rattle.std.proofs.Common.{sym, ◌∙◌, arith}
use Rattle.frozen.specs.Kept.{frozen_view}
use Rattle.census.specs.Census.{counts}
use Rattle.census.proofs.CountLemmas.{counted_next, counted_same, once, sum_zero}
use Rattle.census.proofs.counting.count.Goals.{then-is_counted, else-is_counted}
use Rattle.census.proofs.counting.count.Goals as goal

pub loop-place-init : goal.loop-place-init
loop-place-init c = record {
  counted = sym (sum_zero (once (counts c.args.frozen.now.geometry (frozen_view c.args.frozen.now) c.args.what)));
  few = omega arith;
}

pub loop-place-preserved : goal.loop-place-preserved
loop-place-preserved c =
    let passes = counts c.args.frozen.now.geometry (frozen_view c.args.frozen.now) c.args.what in
    let n = c.loop-place.place in
    let before = c.loop-place.invariant in
    elim c.if-is_counted.branch [
      | then-is_counted w ↦ record {
        counted = w.count-is ∙ counted_next passes n c.loop-place.count (sym c.is_counted.ensures ∙ w.if-is_counted.true) before.counted;
        few = omega (arith, w.count-is, before.few);
      }
      | else-is_counted w ↦ record {
        counted = w.count-is ∙ counted_same passes n c.loop-place.count (sym c.is_counted.ensures ∙ w.if-is_counted.false) before.counted;
        few = omega (arith, w.count-is, before.few);
      }
    ]
