-- The repair of the place is one of the volume, and the law of repairs does the rest.
use Rattle.std.proofs.Common.{inl, inr}
use Rattle.std.proofs.lemmas.Result.{err_from_is_err_and}
use Rattle.frozen.specs.Kept.{frozen_view}
use Rattle.live_repairs.proofs.Carrying.{repair_planned, repaired_blocks}
use Rattle.live_repairs.proofs.Places.{of_volume}
use Rattle.live_removals.proofs.Showing.{shows_itself}
use Rattle.live_repairs.proofs.repair.Goals as goal

pub returns-in_err-repair-clause-refused : goal.returns-in_err-repair-clause-refused
returns-in_err-repair-clause-refused c =
    let p = err_from_is_err_and c.from_residual.result c.from_residual.ensures.1 in
    rw (p.1, p.2) (inr (λ old shows has. inl (c.in_err-repair.ensures.refused c.args.metadata.now.geometry old has)))

pub repaired-requires : goal.repaired-requires
repaired-requires c = of_volume c.args.holdings.now c.args.place c.in_ok-repair.repair c.in_ok-repair.ensures.repair c.args.metadata.now.geometry c.requires.repairs

pub returns-clause-planned : goal.returns-clause-planned
returns-clause-planned c =
    repair_planned c.args.metadata.now c.args.holdings.now c.args.place c.in_ok-repair.repair c.in_ok-repair.ensures.repair c.requires.wide
    c.in_ok-repaired.field-0.plan c.in_ok-repaired.field-0.holds.items c.requires.volume c.in_ok-repaired.ensures

pub returns-clause-holds : goal.returns-clause-holds
returns-clause-holds c =
    let kept = c.args.metadata.now in
    repaired_blocks kept.geometry (frozen_view kept) c.args.holdings.now c.in_ok-repaired.field-0.plan c.in_ok-repaired.field-0.holds.items c.in_ok-repair.repair
    (c.in_ok-repaired.ensures (frozen_view kept) (shows_itself kept))
