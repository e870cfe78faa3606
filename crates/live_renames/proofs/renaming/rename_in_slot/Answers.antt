-- The slot that was found is the directory's, and what is written there says the name.
use Rattle.std.proofs.Common.{All, ap, map, subst, sym, ◌∙◌, IsTrue}
use Rattle.frozen.specs.Kept.{Kept, frozen_view}
use Rattle.model.specs.Layout.{is_data_address}
use Rattle.updates.specs.Places.{IsCell}
use Rattle.updates.specs.Values.{cell}
use Rattle.live_states.specs.Drafts.{Draft}
use Rattle.live_plans.proofs.BlockLemmas.{are_blocks}
use Rattle.live_renames.proofs.GroundLemmas.{found_claim, found_directory}
use Rattle.live_renames.proofs.MoveLemmas.{none_cells, renamed_with}
use Rattle.live_renames.proofs.renaming.rename_in_slot.Goals as goal

pub bytes_of-requires-clause-directory : goal.bytes_of-requires-clause-directory
bytes_of-requires-clause-directory c =
    let kept = c.args.metadata.now in
    found_directory kept.geometry (frozen_view kept) c.requires.found.0 c.args.found.now c.requires.found.1

pub bytes_of-requires-clause-claim : goal.bytes_of-requires-clause-claim
bytes_of-requires-clause-claim c =
    let kept = c.args.metadata.now in
    found_claim kept.geometry (frozen_view kept) c.requires.found.0 c.args.found.now c.requires.found.1

pub put_slot-requires-clause-block : goal.put_slot-requires-clause-block
put_slot-requires-clause-block c =
    let kept = c.args.metadata.now in
    let geometry = ap (λ (d : Draft). d.geometry) c.new-plan.ensures ∙ c.geometry.ensures.geometry ∙ ap (λ (k : Kept). k.geometry) c.frozen-frozen.ensures.same in
    subst (λ geo. IsTrue (is_data_address geo c.args.found.now.block)) (sym geometry) (found_claim kept.geometry (frozen_view kept) c.requires.found.0 c.args.found.now c.requires.found.1).1

pub put_slot-requires-clause-after : goal.put_slot-requires-clause-after
put_slot-requires-clause-after c =
    let kept = c.args.metadata.now in
    let geometry = ap (λ (d : Draft). d.geometry) c.new-plan.ensures ∙ c.geometry.ensures.geometry ∙ ap (λ (k : Kept). k.geometry) c.frozen-frozen.ensures.same in
    subst (λ geo. All (IsCell geo) (map cell c.add_blocks.new.cells.items)) (sym geometry) (c.in_ok-add_blocks.ensures.cells (none_cells kept.geometry c.new-after.result.items c.new-after.ensures.items))

pub returns : goal.returns
returns c =
    renamed_with c.args.metadata.now c.args.found.now c.args.name.now c.entry-entry.result (map cell c.add_blocks.new.cells.items) c.geometry.result c.bytes_of.result.now c.new-plan.result c.put_slot.new.plan
    c.new-plan.ensures (c.geometry.ensures.geometry ∙ ap (λ (k : Kept). k.geometry) c.frozen-frozen.ensures.same) c.entry-entry.ensures
    (λ view shows. are_blocks c.args.metadata.now.geometry view c.args.found.now.directory c.new-after.result.items (map cell c.add_blocks.new.cells.items) c.new-after.ensures.items (c.in_ok-add_blocks.ensures.blocks view shows) (c.in_ok-add_blocks.ensures.only view shows))
    c.bytes_of.ensures.bytes c.in_ok-put_slot.ensures
