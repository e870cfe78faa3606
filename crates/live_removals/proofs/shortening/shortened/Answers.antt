-- The record that is kept gets the size, and then the blocks behind it go.
use Rattle.std.proofs.Common.{◌≡◌, [], ◌∷◌, map, refl, ap, ◌∙◌, subst}
use Rattle.frozen.specs.Kept.{Kept, frozen_view}
use Rattle.model.specs.Cells.{SetInode}
use Rattle.model.specs.Layout.{Geometry}
use Rattle.model.specs.View.{Inode}
use Rattle.model.specs.Uses.{blocks_of}
use Rattle.plans_data.specs.Append.{sized}
use Rattle.plans_data.specs.Freeing.{cleared}
use Rattle.plans_data.specs.Truncate.{truncation}
use Rattle.updates.specs.Values.{cell}
use Rattle.live_plans.proofs.DraftLemmas.{goes_then}
use Rattle.live_plans.proofs.Fitting.{written_fits}
use Rattle.live_states.specs.Drafts.{Draft, GoesOn}
use Rattle.live_states.specs.Holdings.{is_kept_by}
use Rattle.live_removals.specs.Blocks.{freed, held_back, is_loose}
use Rattle.live_removals.specs.Removed.{no_updates}
use Rattle.live_removals.proofs.Showing.{gone_shown, resizes}
use Rattle.live_removals.proofs.shortening.shortened.Goals as goal

pub set_record-requires-clause-fits : goal.set_record-requires-clause-fits
set_record-requires-clause-fits c =
    let kept = c.args.metadata.now in
    let same = c.frozen-frozen.ensures.same in
    let was : Inode = record { mode = c.record.inside.mode; links = c.record.inside.links; size = c.record.inside.size; direct = c.record.inside.direct; indirect = c.record.inside.indirect; double = c.record.inside.double; attributes = c.record.inside.attributes } in
    written_fits kept c.new-plan.result.geometry c.args.number (record was { size = c.args.size }) was (ap (λ (d : Draft). d.geometry) c.new-plan.ensures ∙ c.geometry.ensures.geometry ∙ ap (λ (k : Kept). k.geometry) same)
    (c.record.view_is ∙ c.record-record.ensures ∙ ap (λ (k : Kept). (frozen_view k).inode c.args.number) same) refl

pub returns : goal.returns
returns c = λ view shows.
    let kept = c.args.metadata.now in
    let f = c.frozen-frozen.result.now in
    let holdings = c.args.holdings.now in
    let n = c.args.number in
    let size = c.args.size in
    let same = c.frozen-frozen.ensures.same in
    let keeps = c.frozen-frozen.ensures.metadata in
    let blocks = c.blocks_of_size-left.ensures in
    let start : c.new-plan.result ≡ no_updates kept.geometry c.args.number =
    c.new-plan.ensures ∙ ap (λ (g : Geometry). no_updates g c.args.number) (c.geometry.ensures.geometry ∙ ap (λ (k : Kept). k.geometry) same) in
    let is : (record { mode = c.record.inside.mode; links = c.record.inside.links; size = c.record.inside.size; direct = c.record.inside.direct; indirect = c.record.inside.indirect; double = c.record.inside.double; attributes = c.record.inside.attributes }) ≡ view.inode n =
    c.record.view_is ∙ c.record-record.ensures ∙ ap (λ (k : Kept). (frozen_view k).inode n) same ∙ shows.inode n in
    let resized = resizes n size _ (view.inode n) (map cell c.new.result.items) c.new-plan.result c.set_record.new.self is (ap (map cell) c.new.ensures.items) c.in_ok-set_record.ensures in
    let gives : GoesOn c.set_record.new.self c.give_up.new.plan (cleared n (freed kept.geometry view holdings n (blocks_of size))) =
    subst (λ bs. GoesOn c.set_record.new.self c.give_up.new.plan (cleared n bs))
    (gone_shown kept view keeps shows (is_loose holdings) f same n c.blocks_of_size-left.result ∙ ap (λ left. freed kept.geometry view holdings n left) blocks) c.in_ok-holds.ensures.plan in
    record {
      updates = subst (λ (d : Draft). GoesOn d c.give_up.new.plan (truncation n (view.inode n) size (freed kept.geometry view holdings n (blocks_of size)))) start
          (goes_then c.new-plan.result c.set_record.new.self c.give_up.new.plan (λ q. record { change = SetInode n (sized (view.inode n) size); after = [] } ∷ q) (cleared n (freed kept.geometry view holdings n (blocks_of size))) resized gives);
      held = c.in_ok-holds.ensures.holds ∙ gone_shown kept view keeps shows (is_kept_by holdings) f same n c.blocks_of_size-left.result ∙ ap (λ left. held_back kept.geometry view holdings n left) blocks;
    }
