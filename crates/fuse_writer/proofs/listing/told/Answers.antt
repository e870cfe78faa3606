use Rattle.std.proofs.Common.{ap, sym, Some, None, ◌∙◌}
use Rattle.frozen.specs.Kept.{frozen_view}
use Rattle.fuse_reader.specs.Shown.{shown_by}
use Rattle.fuse_writer.specs.Requests.{adds, found_or_not}
use Rattle.fuse_writer.proofs.PlusLemmas.{lead_as, name_apart, name_left, name_told}
use Rattle.fuse_writer.proofs.RequestLemmas.{with_nodes}
use Rattle.fuse_writer.proofs.listing.told.Goals as goal

pub returns-then-not-may_be_told : goal.returns-then-not-may_be_told
returns-then-not-may_be_told c = λ bytes entry next.
    name_apart c.args.frozen.now c.args.session.now c.args.directory c.args.place c.args.number c.args.name.now bytes entry next (sym c.may_be_told.ensures ∙ c.if-not-may_be_told.true)

pub returns-in_default : goal.returns-in_default
returns-in_default c = λ bytes entry next.
    lead_as (λ t. adds t bytes (found_or_not None) entry next)
    (name_left c.args.frozen.now c.args.session.now c.args.directory c.args.place c.args.number c.args.name.now bytes entry next (sym c.may_be_told.ensures ∙ c.if-not-may_be_told.false))
    (ap (with_nodes c.args.session.now) c.in_default.ensures.refused)

pub returns : goal.returns
returns c = λ bytes entry next.
    let kept = c.args.frozen.now in
    let s = c.args.session.now in
    let i = c.args.number in
    let shown = c.shown_by.ensures ∙ ap (shown_by kept.geometry (frozen_view kept) i) c.attributes_of-own.ensures in
    lead_as (λ t. adds t bytes (found_or_not (Some c.entry_of.result)) entry next)
    (name_told kept s c.args.directory c.args.place i c.args.name.now bytes entry next (sym c.may_be_told.ensures ∙ c.if-not-may_be_told.false) c.entry_of.result
    (c.entry_of.ensures kept s i c.in-Ok.ensures.node c.kept_for.ensures shown)) (ap (with_nodes s) c.in-Ok.ensures.told)
