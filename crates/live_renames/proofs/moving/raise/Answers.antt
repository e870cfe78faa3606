-- The record is the one that is kept, with a link more.
use Rattle.std.proofs.Common.{◌≡◌, ◌+◌, ap, map, refl, ◌∙◌}
use Rattle.std.proofs.lemmas.Result.{on_ok_weaker}
use Rattle.frozen.specs.Kept.{frozen_view}
use Rattle.model.specs.View.{Inode}
use Rattle.updates.specs.Values.{cell}
use Rattle.live_plans.proofs.Fitting.{written_fits}
use Rattle.live_renames.proofs.MoveLemmas.{raises, record_there}
use Rattle.live_renames.proofs.moving.raise.Goals as goal

pub set_record-requires-clause-fits : goal.set_record-requires-clause-fits
set_record-requires-clause-fits c =
    let kept = c.args.metadata.now in
    let n = c.args.number in
    let was : Inode = record { mode = c.record.inside.mode; links = c.record.inside.links; size = c.record.inside.size; direct = c.record.inside.direct; indirect = c.record.inside.indirect; double = c.record.inside.double; attributes = c.record.inside.attributes } in
    written_fits kept c.args.plan.now.geometry n (record was { links = was.links + 1 }) was c.requires.geometry
    (c.record.view_is ∙ c.record-record.ensures ∙ record_there c.frozen.result.now kept n c.frozen.ensures.same) refl

pub returns : goal.returns
returns c =
    let kept = c.args.metadata.now in
    let n = c.args.number in
    let is : (record { mode = c.record.inside.mode; links = c.record.inside.links; size = c.record.inside.size; direct = c.record.inside.direct; indirect = c.record.inside.indirect; double = c.record.inside.double; attributes = c.record.inside.attributes }) ≡ (frozen_view kept).inode n =
    c.record.view_is ∙ c.record-record.ensures ∙ record_there c.frozen.result.now kept n c.frozen.ensures.same in
    on_ok_weaker c.set_record.result (raises n _ ((frozen_view kept).inode n) (map cell c.new.result.items) c.args.plan.now c.set_record.new.self is (ap (map cell) c.new.ensures.items)) c.set_record.ensures
