-- The slot is emptied after the directory's blocks, two links go, and then one of the parent.
use Rattle.std.proofs.Common.{◌≡◌, List, ◌∷◌, All, map, sym, ap, ◌∙◌, subst}
use Rattle.std.proofs.lemmas.List.Elements.{All-nil}
use Rattle.frozen.specs.Kept.{Kept, frozen_view}
use Rattle.model.specs.Layout.{Geometry}
use Rattle.model.specs.View.{Inode}
use Rattle.plans_naming.specs.Entries.{no_entry, slot_written}
use Rattle.plans_naming.specs.Unlink.{lowered}
use Rattle.updates.specs.declared.cell.Cell.{Cell}
use Rattle.updates.specs.Places.{IsCell}
use Rattle.updates.specs.Values.{cell}
use Rattle.live_states.specs.Drafts.{Draft, GoesOn}
use Rattle.live_plans.proofs.BlockLemmas.{are_blocks}
use Rattle.live_removals.specs.Removed.{no_updates}
use Rattle.live_removals.proofs.Showing.{shows_itself}
use Rattle.live_removals.proofs.Leaving.{loses_geometry}
use Rattle.live_removals.proofs.removing.removed.Goals as goal

pub empty_slot-requires-clause-after : goal.empty_slot-requires-clause-after
empty_slot-requires-clause-after c =
    let kept = c.args.metadata.now in
    let same : c.new-plan.result.geometry ≡ kept.geometry = ap (λ (d : Draft). d.geometry) c.new-plan.ensures ∙ c.geometry.ensures.geometry ∙ ap (λ (k : Kept). k.geometry) c.frozen-frozen.ensures.same in
    subst (λ (g : Geometry). All (IsCell g) (map cell c.add_blocks.new.cells.items)) (sym same)
    (c.in_ok-add_blocks.ensures.cells (subst (λ (xs : List Cell). All (IsCell kept.geometry) (map cell xs)) (sym c.new-after.ensures.items) (All-nil (IsCell kept.geometry))))

pub lose_links-requires-clause-geometry : goal.lose_links-requires-clause-geometry
lose_links-requires-clause-geometry c =
    let kept = c.args.metadata.now in
    c.in_ok-empty_slot.ensures.geometry ∙ ap (λ (d : Draft). d.geometry) c.new-plan.ensures ∙ c.geometry.ensures.geometry ∙ ap (λ (k : Kept). k.geometry) c.frozen-frozen.ensures.same

pub lower-requires-clause-geometry : goal.lower-requires-clause-geometry
lower-requires-clause-geometry c =
    let kept = c.args.metadata.now in
    let found = c.args.found.now in
    loses_geometry kept.geometry (frozen_view kept) c.args.holdings.now found.number 2 found.block c.empty_slot.new.plan c.lose_links.new.plan c.in_ok-holds.holds.items (c.in_ok-holds.ensures (frozen_view kept) (shows_itself kept))
    ∙ c.in_ok-empty_slot.ensures.geometry ∙ ap (λ (d : Draft). d.geometry) c.new-plan.ensures ∙ c.geometry.ensures.geometry ∙ ap (λ (k : Kept). k.geometry) c.frozen-frozen.ensures.same

pub returns : goal.returns
returns c = λ view shows.
    let kept = c.args.metadata.now in
    let found = c.args.found.now in
    let d = found.directory in
    let start : c.new-plan.result ≡ no_updates kept.geometry c.args.found.now.number =
    c.new-plan.ensures ∙ ap (λ (g : Geometry). no_updates g c.args.found.now.number) (c.geometry.ensures.geometry ∙ ap (λ (k : Kept). k.geometry) c.frozen-frozen.ensures.same) in
    record {
      after = map cell c.add_blocks.new.cells.items;
      own_first = are_blocks kept.geometry view found.number c.new-after.result.items (map cell c.add_blocks.new.cells.items) c.new-after.ensures.items (c.in_ok-add_blocks.ensures.blocks view shows) (c.in_ok-add_blocks.ensures.only view shows);
      left = c.lose_links.new.plan;
      leaves = record {
        emptied = c.empty_slot.new.plan;
        empties = subst (λ (e : Draft). GoesOn e c.empty_slot.new.plan (λ q. slot_written found.block (view.bytes found.block) found.slot no_entry (map cell c.add_blocks.new.cells.items) ∷ q)) start (c.in_ok-empty_slot.ensures.emptied view shows);
        loses = c.in_ok-holds.ensures view shows;
      };
      lowers = subst (λ (i : Inode). GoesOn c.lose_links.new.plan c.lower.new.plan (lowered d i 1 c.args.found.now.block)) (shows.inode d) c.in_ok-lower.ensures;
    }
