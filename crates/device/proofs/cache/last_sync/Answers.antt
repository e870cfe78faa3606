use Rattle.std.proofs.Common.{◌≡◌, ◌+◌, ◌≤◌, [], length, take, drop, sym, subst, arith, length-take-le}
use Rattle.device.specs.declared.cache.Step.TheVariants.{Wrote}
use Rattle.device.specs.Cached.{AreWrites, IsSince}
use Rattle.device.proofs.MediaLemmas.{no_writes_behind, since_synced, since_wrote, writes_more}
use Rattle.device.proofs.cache.last_sync.Goals as goal
use Rattle.device.proofs.cache.last_sync.Goals.{in-Synced, in-Wrote}

pub loop-at-preserved : goal.loop-at-preserved
loop-at-preserved c =
    let ss = c.args.steps.now in
    let at = c.loop-at.at in
    let low = c.loop-at-test.true in
    let before : length (take at ss) ≡ at = length-take-le at ss (omega (arith, low)) in
    let count : length (take (at + 1) ss) ≡ at + 1 = length-take-le (at + 1) ss (omega (arith, low)) in
    elim c.match-step.branch [
      | in-Synced w ↦ record {
        within = omega (arith, w.synced-is);
        since = subst (λ n. IsSince ss n (at + 1)) (sym w.synced-is) (since_synced ss at (Wrote 0 []) low count w.in-Synced.is);
        writes = subst (λ n. AreWrites (drop n (take (at + 1) ss))) (sym w.synced-is) (no_writes_behind ss (at + 1) count);
      }
      | in-Wrote w ↦ record {
        within = omega (arith, c.loop-at.invariant.within, w.synced-is);
        since = subst (λ n. IsSince ss n (at + 1)) (sym w.synced-is)
            (since_wrote ss c.loop-at.synced at (Wrote 0 []) low c.loop-at.invariant.within before c.loop-at.invariant.since _ _ w.in-Wrote.is);
        writes = subst (λ n. AreWrites (drop n (take (at + 1) ss))) (sym w.synced-is)
            (writes_more ss c.loop-at.synced at (Wrote 0 []) low c.loop-at.invariant.within before c.loop-at.invariant.since _ _ w.in-Wrote.is c.loop-at.invariant.writes);
      }
    ]
