-- Each turn frees one more orphan, or finds none; at the end all handles were looked at.
use Rattle.std.proofs.Common.{◌≡◌, sym, ◌∙◌, subst, add-one, arith}
use Rattle.live_snapshots.proofs.Finding.{FreesFound, an_orphan, no_orphan, none_found}
use Rattle.live_snapshots.proofs.orphans.free_orphans.Goals as goal
use Rattle.live_snapshots.proofs.orphans.free_orphans.Goals.{in-Some+in_ok-free, in_default}

pub loop-handle-init : goal.loop-handle-init
loop-handle-init c =
    let kept = c.args.frozen.now in
    let holdings = c.args.holdings.now in
    (subst (FreesFound kept holdings 0) (sym c.new-updates.ensures.items) (none_found kept holdings), omega arith)

pub loop-handle-preserved : goal.loop-handle-preserved
loop-handle-preserved c =
    let kept = c.args.frozen.now in
    let holdings = c.args.holdings.now in
    let h = c.loop-handle.handle in
    let old = c.loop-handle.updates.items in
    let inv = c.loop-handle.invariant in (
      elim c.match-orphan_at.branch [
        | in-Some+in_ok-free w ↦ rw (w.updates-is)
            (subst (λ m. FreesFound kept holdings m w.free.new.updates.items) (sym (add-one h))
            (an_orphan kept holdings h w.in-Some.number old w.free.new.updates.items (sym c.orphan_at.ensures ∙ w.in-Some.is) inv.0 w.in_ok-free.ensures))
        | in_default w ↦ rw (w.updates-is)
            (subst (λ m. FreesFound kept holdings m old) (sym (add-one h)) (no_orphan kept holdings h old (sym c.orphan_at.ensures ∙ w.in_default.is) inv.0))
      ],
      omega (arith, c.loop-handle-test.true),
    )

pub returns : goal.returns
returns c =
    let kept = c.args.frozen.now in
    let holdings = c.args.holdings.now in
    let end : c.loop-handle.handle ≡ 1024 = omega (arith, c.loop-handle-test.false, c.loop-handle.invariant.1) in
    subst (λ h. FreesFound kept holdings h c.loop-handle.updates.items) end c.loop-handle.invariant.0
