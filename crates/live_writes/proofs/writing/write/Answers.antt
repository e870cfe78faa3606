-- The updates are those of the piece over what is seen, and of a longer piece over anything.
use Rattle.std.proofs.Common.{◌<◌, [], sym, subst, arith}
use Rattle.std.specs.Arc.{arc_value}
use Rattle.std.specs.List.{All}
use Rattle.model.specs.Layout.{block_count}
use Rattle.model.proofs.Shape.{numbers}
use Rattle.live_states.specs.Drafts.{GoesOn}
use Rattle.live_plans.proofs.GrowLemmas.{volume_claims}
use Rattle.live_writes.specs.Written.{grown_size, updates_at}
use Rattle.live_writes.proofs.Sights.{held_below, planned, planned_anyhow}
use Rattle.live_writes.proofs.writing.write.Goals as goal

pub returns-clause-planned : goal.returns-clause-planned
returns-clause-planned c = λ h k aimed.
    let kept = c.args.metadata.now in
    let target = c.args.target.now in
    let piece = c.args.piece.now.bytes.now in
    planned kept c.args.holdings.now c.frozen.ensures.metadata c.requires.volume c.requires.wide h k piece (arc_value c.in_ok-bytes.bytes) target aimed c.in_ok-plan.plan
    (subst (λ j. GoesOn (record { geometry = kept.geometry; file = target.file; updates = [] }) c.in_ok-plan.plan (updates_at kept target (arc_value c.in_ok-bytes.bytes) (grown_size kept target.file j piece))) aimed.index c.in_ok-plan.ensures)
    c.in_ok-holds.holds.items c.in_ok-holds.ensures c.in_ok-bytes.ensures.whole c.args.piece.now.before.now c.in_ok-bytes.ensures.bytes

pub returns-clause-planned_anyhow : goal.returns-clause-planned_anyhow
returns-clause-planned_anyhow c = λ h k aimed.
    let kept = c.args.metadata.now in
    let target = c.args.target.now in
    let piece = c.args.piece.now.bytes.now in
    planned_anyhow kept c.args.holdings.now c.frozen.ensures.metadata c.requires.volume c.requires.wide h k piece (arc_value c.in_ok-bytes.bytes) target aimed c.in_ok-plan.plan
    (subst (λ j. GoesOn (record { geometry = kept.geometry; file = target.file; updates = [] }) c.in_ok-plan.plan (updates_at kept target (arc_value c.in_ok-bytes.bytes) (grown_size kept target.file j piece))) aimed.index c.in_ok-plan.ensures)
    c.in_ok-holds.holds.items c.in_ok-holds.ensures c.in_ok-bytes.ensures.whole

pub returns-clause-holds : goal.returns-clause-holds
returns-clause-holds c =
    let kept = c.args.metadata.now in
    let target = c.args.target.now in
    let aimed = c.requires.aimed.2 in
    subst (λ bs. All (λ a. a < block_count kept.geometry) bs) (sym c.in_ok-holds.ensures) (held_below kept c.args.holdings.now c.requires.volume.volume target.file target.index target.place aimed.fits.placed)

pub updates-requires-clause-pointers : goal.updates-requires-clause-pointers
updates-requires-clause-pointers c =
    volume_claims c.args.metadata.now c.frozen.ensures.metadata c.requires.volume.volume c.args.target.now.file c.requires.aimed.2.fits.sound

pub overflow_mul-end : goal.overflow_mul-end
overflow_mul-end c =
    let aimed = c.requires.aimed.2 in
    let num = (numbers c.args.metadata.now.geometry).1 in
    omega (arith, aimed.fits.room, num.most, num.few)

pub overflow_add-end : goal.overflow_add-end
overflow_add-end c =
    let aimed = c.requires.aimed.2 in
    let num = (numbers c.args.metadata.now.geometry).1 in
    omega (arith, aimed.few, aimed.fits.room, num.most, num.few)
