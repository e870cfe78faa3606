-- The slot is emptied, and then a link goes, while the file stays.
use Rattle.std.proofs.Common.{◌≡◌, List, [], ◌∷◌, map, ap, ◌∙◌, subst}
use Rattle.frozen.specs.Kept.{Kept, frozen_view}
use Rattle.model.specs.Layout.{Geometry}
use Rattle.model.specs.View.{Inode}
use Rattle.plans_naming.specs.Entries.{no_entry, slot_written}
use Rattle.plans_naming.specs.Unlink.{lowered}
use Rattle.updates.specs.declared.cell.Cell.{Cell}
use Rattle.updates.specs.Values.{cell}
use Rattle.live_states.specs.Drafts.{Draft, GoesOn}
use Rattle.live_removals.specs.Removed.{no_updates}
use Rattle.live_removals.proofs.unlinking.unnamed.Goals as goal

pub lower-requires-clause-geometry : goal.lower-requires-clause-geometry
lower-requires-clause-geometry c =
    let kept = c.args.metadata.now in
    c.in_ok-empty_slot.ensures.geometry ∙ ap (λ (d : Draft). d.geometry) c.new-plan.ensures ∙ c.geometry.ensures.geometry ∙ ap (λ (k : Kept). k.geometry) c.frozen.ensures.same

pub returns : goal.returns
returns c = λ view shows.
    let kept = c.args.metadata.now in
    let found = c.args.found.now in
    let start : c.new-plan.result ≡ no_updates kept.geometry c.args.found.now.number =
    c.new-plan.ensures ∙ ap (λ (g : Geometry). no_updates g c.args.found.now.number) (c.geometry.ensures.geometry ∙ ap (λ (k : Kept). k.geometry) c.frozen.ensures.same) in
    record {
      emptied = c.empty_slot.new.plan;
      empties = subst (λ (d : Draft). GoesOn d c.empty_slot.new.plan (λ q. slot_written found.block (view.bytes found.block) found.slot no_entry [] ∷ q)) start
          (subst (λ (cs : List Cell). GoesOn c.new-plan.result c.empty_slot.new.plan (λ q. slot_written found.block (view.bytes found.block) found.slot no_entry (map cell cs) ∷ q)) c.new-after.ensures.items (c.in_ok-empty_slot.ensures.emptied view shows));
      lowers = subst (λ (i : Inode). GoesOn c.empty_slot.new.plan c.lower.new.plan (lowered found.number i 1 found.block)) (shows.inode found.number) c.in_ok-lower.ensures;
    }
