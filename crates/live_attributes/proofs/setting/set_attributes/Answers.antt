-- A number without a sound inode is the one cause, and what is left is a plan.
use Rattle.std.proofs.Common.{true, false, inl, inr}
use Rattle.live_attributes.proofs.Attributing.{attributes_planned, attributes_refused, sound_shown}
use Rattle.live_attributes.proofs.setting.set_attributes.Goals as goal

pub returns-then-not-is_sound_at-clause-refused : goal.returns-then-not-is_sound_at-clause-refused
returns-then-not-is_sound_at-clause-refused c =
    let kept = c.args.metadata.now in
    let n = c.args.number in
    inr (λ old shows. inl (attributes_refused kept.geometry old n c.args.attributes.now
    (sound_shown kept c.frozen.result.now c.frozen.ensures.same n old.view shows c.is_sound_at.result false c.is_sound_at.ensures c.if-not-is_sound_at.true)))

pub returns-clause-planned : goal.returns-clause-planned
returns-clause-planned c =
    let kept = c.args.metadata.now in
    let n = c.args.number in
    attributes_planned kept n c.args.attributes.now c.in_ok-attributed.field-0 c.requires.old.view c.requires.shows
    (λ view shows. sound_shown kept c.frozen.result.now c.frozen.ensures.same n view shows c.is_sound_at.result true c.is_sound_at.ensures c.if-not-is_sound_at.false)
    c.in_ok-attributed.ensures
