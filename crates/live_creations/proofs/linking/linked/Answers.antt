-- The record with a link more, and then the entry.
use Rattle.std.proofs.Common.{◌+◌, map, ap, refl, ◌∙◌}
use Rattle.frozen.specs.Kept.{Kept, frozen_view}
use Rattle.model.specs.View.{Inode}
use Rattle.updates.specs.Values.{cell}
use Rattle.live_states.specs.Drafts.{Draft}
use Rattle.live_plans.proofs.Fitting.{written_fits}
use Rattle.live_creations.proofs.FirstUpdates.{raises_links}
use Rattle.live_creations.proofs.linking.linked.Goals as goal

pub set_record-requires-clause-fits : goal.set_record-requires-clause-fits
set_record-requires-clause-fits c =
    let n = c.args.new.now.number in
    let same = c.frozen-frozen.ensures.same in
    let was : Inode = record { mode = c.raised.inside.mode; links = c.raised.inside.links; size = c.raised.inside.size; direct = c.raised.inside.direct; indirect = c.raised.inside.indirect; double = c.raised.inside.double; attributes = c.raised.inside.attributes } in
    written_fits c.args.metadata.now c.new-plan.result.geometry n (record was { links = was.links + 1 }) was (ap (λ (d : Draft). d.geometry) c.new-plan.ensures ∙ c.geometry.ensures.geometry ∙ ap (λ (k : Kept). k.geometry) same)
    (c.raised.view_is ∙ c.record-raised.ensures ∙ ap (λ (k : Kept). (frozen_view k).inode n) same) refl

pub returns : goal.returns
returns c = λ view shows.
    let n = c.args.new.now.number in
    raises_links c.args.metadata.now.geometry c.geometry.result view c.args.new.now c.new-plan.result c.set_record.new.self c.enter.new.plan (map cell c.new.result.items) _ _
    c.new-plan.ensures (c.geometry.ensures.geometry ∙ ap (λ (k : Kept). k.geometry) c.frozen-frozen.ensures.same) (ap (map cell) c.new.ensures.items)
    (c.raised.view_is ∙ c.record-raised.ensures ∙ ap (λ (k : Kept). (frozen_view k).inode n) c.frozen-frozen.ensures.same ∙ shows.inode n) refl
    c.in_ok-set_record.ensures (c.in_ok-enter.ensures view shows)
