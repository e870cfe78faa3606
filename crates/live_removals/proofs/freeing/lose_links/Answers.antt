-- The record that is kept is the one that users see.
use Rattle.std.proofs.Common.{◌≡◌, List, [], ◌∷◌, ◌++◌, map, ap, ◌∙◌}
use Rattle.ordering.specs.Cuts.{Block}
use Rattle.plans_data.specs.Freeing.{freeing}
use Rattle.frozen.specs.Kept.{Kept, frozen_view}
use Rattle.updates.specs.declared.cell.Cell.{Cell}
use Rattle.updates.specs.declared.cell.Cell.TheVariants as cells
use Rattle.updates.specs.Values.{cell}
use Rattle.live_states.specs.Drafts.{GoesOn}
use Rattle.live_removals.specs.Blocks.{freed, held_back}
use Rattle.live_removals.proofs.Showing.{goes, stays, with_both}
use Rattle.live_removals.proofs.freeing.lose_links.Goals as goal

pub returns-in_ok-push : goal.returns-in_ok-push
returns-in_ok-push c =
    let kept = c.args.metadata.now in
    let f = c.frozen-else-record-fewer.result.now in
    let holdings = c.args.holdings.now in
    let n = c.args.number in
    let is : (record { mode = c.record.inside.mode; links = c.record.inside.links; size = c.record.inside.size; direct = c.record.inside.direct; indirect = c.record.inside.indirect; double = c.record.inside.double; attributes = c.record.inside.attributes }) ≡ (frozen_view kept).inode n =
    c.record.view_is ∙ c.record-record.ensures ∙ ap (λ (k : Kept). (frozen_view k).inode n) c.frozen.ensures.same in
    let after : map cell c.push.new.self.items ≡ Block c.args.block ∷ [] =
    ap (map cell) (c.in_ok-push.ensures.ok ∙ ap (λ (xs : List Cell). xs ++ cells.Block c.args.block ∷ []) c.new-after.ensures.items) in
    with_both c.free.result (GoesOn c.args.plan.now c.free.new.plan (freeing n (freed f.geometry (frozen_view f) holdings n 0) (map cell c.push.new.self.items)))
    (λ holds. holds.items ≡ held_back f.geometry (frozen_view f) holdings n 0) _ c.free.ensures.plan c.free.ensures.holds
    (λ holds frees held view shows. goes kept view shows holdings n c.args.fewer c.args.block c.args.plan.now c.free.new.plan holds.items c.frozen.ensures.metadata f c.frozen-else-record-fewer.ensures.same _ is c.if-record-fewer.false
    (map cell c.push.new.self.items) after frees held)

pub returns-in_ok-lower : goal.returns-in_ok-lower
returns-in_ok-lower c = λ view shows.
    let kept = c.args.metadata.now in
    let n = c.args.number in
    let is : (record { mode = c.record.inside.mode; links = c.record.inside.links; size = c.record.inside.size; direct = c.record.inside.direct; indirect = c.record.inside.indirect; double = c.record.inside.double; attributes = c.record.inside.attributes }) ≡ (frozen_view kept).inode n =
    c.record.view_is ∙ c.record-record.ensures ∙ ap (λ (k : Kept). (frozen_view k).inode n) c.frozen.ensures.same in
    stays kept view shows c.args.holdings.now n c.args.fewer c.args.block c.args.plan.now c.lower.new.plan c.new.result.items _ is c.if-record-fewer.true c.in_ok-lower.ensures c.new.ensures.items
