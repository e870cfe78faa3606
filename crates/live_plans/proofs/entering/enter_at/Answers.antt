-- The entry goes into its slot behind what was added before.
use Rattle.std.proofs.Common.{◌/◌, ◌*◌, map, All, sym, ap, ◌∙◌, subst, arith, IsTrue}
use Rattle.std.proofs.lemmas.Result.{on_ok_weaker}
use Rattle.frozen.specs.Kept.{frozen_view}
use Rattle.model.specs.Layout.{Geometry, is_data_address}
use Rattle.model.proofs.UseLemmas.{claim_parts}
use Rattle.updates.specs.Places.{IsCell}
use Rattle.updates.specs.Values.{cell}
use Rattle.live_places.specs.Chosen.{IsEmptySlot, IsNewBlock, IsPlace}
use Rattle.live_plans.specs.Entered.{EntersAt}
use Rattle.live_plans.proofs.EnterLemmas.{cells_after, enters_new_block, enters_slot, only_these, record_first}
use Rattle.live_plans.proofs.GrowLemmas.{few_before, same_size}
use Rattle.live_plans.proofs.entering.enter_at.Goals as goal

pub bytes_of-bytes-requires-clause-claim : goal.bytes_of-bytes-requires-clause-claim
bytes_of-bytes-requires-clause-claim c =
    let kept = c.args.metadata.now in
    let d = c.args.new.now.directory in
    let is : IsEmptySlot kept.geometry (frozen_view kept) d c.in-Slot.slot c.in-Slot.block = subst (IsPlace kept.geometry (frozen_view kept) d) c.in-Slot.is c.requires.place in
    claim_parts kept.geometry (frozen_view kept) d (c.in-Slot.slot / 16) c.in-Slot.block is.stands

-- the directory has a position left, which is a small number
pub overflow_mul-index : goal.overflow_mul-index
overflow_mul-index c =
    let kept = c.args.metadata.now in
    let new = c.args.new.now in
    let is : IsNewBlock kept.geometry (frozen_view kept) new.directory c.in-NewBlock.block c.in-NewBlock.tables = subst (IsPlace kept.geometry (frozen_view kept) new.directory) c.in-NewBlock.is c.requires.place in
    let few = few_before kept.geometry (frozen_view kept) new.directory new.parent c.requires.parent.0 c.requires.parent.1 is.none c.requires.room in
    omega (arith, few.1, c.blocks-in-NewBlock.ensures)

pub put_slot-requires-clause-block : goal.put_slot-requires-clause-block
put_slot-requires-clause-block c =
    let kept = c.args.metadata.now in
    let d = c.args.new.now.directory in
    let is : IsEmptySlot kept.geometry (frozen_view kept) d c.in-Slot.slot c.in-Slot.block = subst (IsPlace kept.geometry (frozen_view kept) d) c.in-Slot.is c.requires.place in
    subst (λ (g : Geometry). IsTrue (is_data_address g c.in-Slot.block)) (sym c.requires.geometry) (claim_parts kept.geometry (frozen_view kept) d (c.in-Slot.slot / 16) c.in-Slot.block is.stands).1

pub put_slot-requires-clause-after : goal.put_slot-requires-clause-after
put_slot-requires-clause-after c = subst (λ (g : Geometry). All (IsCell g) (map cell c.add_blocks.new.cells.items)) (sym c.requires.geometry)
    (cells_after c.args.metadata.now.geometry c.args.new.now.number (map cell c.in_ok-after.after.items) (map cell c.add_blocks.new.cells.items) (ap (map cell) c.in_ok-after.ensures.items) c.requires.number c.in_ok-add_blocks.ensures.cells)

pub put_slot-requires-in-NewBlock-clause-after : goal.put_slot-requires-in-NewBlock-clause-after
put_slot-requires-in-NewBlock-clause-after c =
    subst (λ (g : Geometry). All (IsCell g) (map cell c.add_blocks.new.cells.items)) (sym (c.in_ok-grow-in-NewBlock.ensures.geometry ∙ c.requires.geometry))
    (cells_after c.args.metadata.now.geometry c.args.new.now.number (map cell c.in_ok-after.after.items) (map cell c.add_blocks.new.cells.items) (ap (map cell) c.in_ok-after.ensures.items) c.requires.number c.in_ok-add_blocks.ensures.cells)

pub returns-in-Slot : goal.returns-in-Slot
returns-in-Slot c =
    let kept = c.args.metadata.now in
    let new = c.args.new.now in
    on_ok_weaker c.put_slot.result
    (λ puts view shows. subst (λ p. EntersAt kept.geometry view new.directory new.parent new.number new.name.now p c.args.plan.now c.put_slot.new.plan) (sym c.in-Slot.is)
    (enters_slot kept.geometry view new.directory new.number new.name.now c.entry-entry.result (map cell c.add_blocks.new.cells.items) c.entry-entry.ensures
    (record_first new.number (map cell c.in_ok-after.after.items) (map cell c.add_blocks.new.cells.items) (ap (map cell) c.in_ok-after.ensures.items) c.in_ok-add_blocks.ensures.kept) (c.in_ok-add_blocks.ensures.blocks view shows)
    (only_these kept.geometry view new.directory new.number (map cell c.in_ok-after.after.items) (map cell c.add_blocks.new.cells.items) (ap (map cell) c.in_ok-after.ensures.items) (c.in_ok-add_blocks.ensures.only view shows))
    c.in-Slot.slot c.in-Slot.block c.bytes_of-bytes.result.now c.args.plan.now c.put_slot.new.plan (c.bytes_of-bytes.ensures.bytes view shows) puts))
    c.put_slot.ensures

pub returns-in_ok-grow-in-NewBlock : goal.returns-in_ok-grow-in-NewBlock
returns-in_ok-grow-in-NewBlock c =
    let kept = c.args.metadata.now in
    let new = c.args.new.now in
    on_ok_weaker c.put_slot-in-NewBlock.result
    (λ puts view shows.
    let size = same_size kept view shows new.directory c.in-NewBlock.block new.parent c.requires.parent.0 c.requires.parent.1 in
    subst (λ p. EntersAt kept.geometry view new.directory new.parent new.number new.name.now p c.args.plan.now c.put_slot-in-NewBlock.new.plan) (sym c.in-NewBlock.is)
    (enters_new_block kept.geometry view new.directory new.number new.name.now c.entry-entry.result (map cell c.add_blocks.new.cells.items) c.entry-entry.ensures
    (record_first new.number (map cell c.in_ok-after.after.items) (map cell c.add_blocks.new.cells.items) (ap (map cell) c.in_ok-after.ensures.items) c.in_ok-add_blocks.ensures.kept) (c.in_ok-add_blocks.ensures.blocks view shows)
    (only_these kept.geometry view new.directory new.number (map cell c.in_ok-after.after.items) (map cell c.add_blocks.new.cells.items) (ap (map cell) c.in_ok-after.ensures.items) (c.in_ok-add_blocks.ensures.only view shows))
    new.parent c.in-NewBlock.block c.in-NewBlock.tables (16 * c.blocks-in-NewBlock.result) c.args.plan.now c.grow.new.plan c.put_slot-in-NewBlock.new.plan (omega (arith, size, c.blocks-in-NewBlock.ensures))
    (c.in_ok-grow-in-NewBlock.ensures.grows view shows) puts))
    c.put_slot-in-NewBlock.ensures
