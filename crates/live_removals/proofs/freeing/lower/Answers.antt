-- The record is the one that is kept, with links taken off.
use Rattle.std.proofs.Common.{◌≡◌, ◌-◌, List, [], ◌∷◌, ◌++◌, map, refl, ap, ◌∙◌}
use Rattle.std.proofs.lemmas.Result.{on_ok_weaker}
use Rattle.model.specs.View.{Inode}
use Rattle.ordering.specs.Cuts.{Block}
use Rattle.frozen.specs.Kept.{Kept, frozen_view}
use Rattle.updates.specs.declared.cell.Cell.{Cell}
use Rattle.updates.specs.declared.cell.Cell.TheVariants as cells
use Rattle.updates.specs.Values.{cell}
use Rattle.live_plans.proofs.Fitting.{written_fits}
use Rattle.live_removals.proofs.Showing.{lowers}
use Rattle.live_removals.proofs.freeing.lower.Goals as goal

pub set_record-requires-clause-fits : goal.set_record-requires-clause-fits
set_record-requires-clause-fits c =
    let kept = c.args.metadata.now in
    let was : Inode = record { mode = c.record.inside.mode; links = c.record.inside.links; size = c.record.inside.size; direct = c.record.inside.direct; indirect = c.record.inside.indirect; double = c.record.inside.double; attributes = c.record.inside.attributes } in
    written_fits kept c.args.plan.now.geometry c.args.number (record was { links = was.links - c.args.fewer }) was c.requires.geometry
    (c.record.view_is ∙ c.record-record.ensures ∙ ap (λ (k : Kept). (frozen_view k).inode c.args.number) c.frozen.ensures.same) refl

pub returns : goal.returns
returns c =
    let kept = c.args.metadata.now in
    let n = c.args.number in
    let is : (record { mode = c.record.inside.mode; links = c.record.inside.links; size = c.record.inside.size; direct = c.record.inside.direct; indirect = c.record.inside.indirect; double = c.record.inside.double; attributes = c.record.inside.attributes }) ≡ (frozen_view kept).inode n =
    c.record.view_is ∙ c.record-record.ensures ∙ ap (λ (k : Kept). (frozen_view k).inode n) c.frozen.ensures.same in
    let after : map cell c.push.new.self.items ≡ Block c.args.block ∷ [] =
    ap (map cell) (c.in_ok-push.ensures.ok ∙ ap (λ (xs : List Cell). xs ++ cells.Block c.args.block ∷ []) c.new-after.ensures.items) in
    on_ok_weaker c.set_record.result (lowers n c.args.fewer c.args.block _ ((frozen_view kept).inode n) (map cell c.push.new.self.items) c.args.plan.now c.set_record.new.self is after) c.set_record.ensures
