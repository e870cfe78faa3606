use Rattle.std.proofs.Common.{◌+◌, [], take, sym, subst, arith}
use Rattle.device.specs.declared.cache.Step.TheVariants.{Wrote}
use Rattle.left_images.proofs.JudgedLemmas.{AreLoose, none_loose, one_loose}
use Rattle.left_images.proofs.judging.loose_after.Goals as goal
use Rattle.left_images.proofs.judging.loose_after.Goals.{in-Synced, in-Wrote}

pub loop-at-preserved : goal.loop-at-preserved
loop-at-preserved c =
    let ss = c.args.steps.now in
    let at = c.loop-at.at in
    elim c.match-step.branch [
      | in-Synced w ↦ record {
        few = omega (arith, w.loose-is);
        are = subst (AreLoose (take (at + 1) ss)) (sym w.loose-is) (none_loose ss at (Wrote 0 []) c.loop-at-test.true w.in-Synced.is);
      }
      | in-Wrote w ↦ record {
        few = omega (arith, c.loop-at.invariant.few, w.loose-is);
        are = subst (AreLoose (take (at + 1) ss)) (sym w.loose-is) (one_loose ss at c.loop-at.loose (Wrote 0 []) c.loop-at-test.true c.loop-at.invariant.are _ _ w.in-Wrote.is);
      }
    ]
