-- The blocks of the place come first, and the grounds behind them.
use Rattle.std.proofs.Common.{◌∙◌, ap, map, subst}
use Rattle.smallvec.specs.SmallVec.{SmallVec}
use Rattle.frozen.specs.Kept.{frozen_view}
use Rattle.updates.specs.declared.cell.Cell.{Cell}
use Rattle.updates.specs.Values.{cell}
use Rattle.live_renames.specs.Gathered.{IsGrounded}
use Rattle.live_renames.proofs.MoveLemmas.{none_cells}
use Rattle.live_renames.proofs.PlaceLemmas.{Placed, blocks_placed, place_more, slot_placed}
use Rattle.live_renames.proofs.moving.first_cells.Goals.{in-Slot+in_ok-push-in-Slot, in-NewBlock+in_ok-push-in-NewBlock+in_ok-add_tables-in-NewBlock}
use Rattle.live_renames.proofs.moving.first_cells.Goals as goal

pub returns-clause-cells : goal.returns-clause-cells
returns-clause-cells c =
    let geo = c.args.frozen.now.geometry in
    let view = frozen_view c.args.frozen.now in
    let d = c.requires.place.0 in
    let place = c.args.place.now in
    let none = c.new-cells.result.items in
    let cells = c.match-place.cells.items in
    let placed : Placed geo place none cells = elim c.match-place.branch [
      | in-Slot+in_ok-push-in-Slot w ↦ slot_placed geo view d place c.requires.place.1 none w.in-Slot.slot w.in-Slot.block cells w.in-Slot.is (ap (λ (v : SmallVec Cell). v.items) w.cells-is ∙ w.in_ok-push-in-Slot.ensures.ok)
      | in-NewBlock+in_ok-push-in-NewBlock+in_ok-add_tables-in-NewBlock w ↦ blocks_placed geo view d place c.requires.place.1 none w.in-NewBlock.block w.in-NewBlock.tables w.push-in-NewBlock.new.self.items cells
          w.in-NewBlock.is w.in_ok-push-in-NewBlock.ensures.ok (ap (λ (v : SmallVec Cell). map cell v.items) w.cells-is ∙ w.in_ok-add_tables-in-NewBlock.ensures)
    ] in
    c.in_ok-add_grounds.ensures.gathers.cells (placed.0.cells (none_cells geo none c.new-cells.ensures.items))

pub returns-clause-first : goal.returns-clause-first
returns-clause-first c =
    let geo = c.args.frozen.now.geometry in
    let view = frozen_view c.args.frozen.now in
    let d = c.requires.place.0 in
    let place = c.args.place.now in
    let none = c.new-cells.result.items in
    let cells = c.match-place.cells.items in
    let placed : Placed geo place none cells = elim c.match-place.branch [
      | in-Slot+in_ok-push-in-Slot w ↦ slot_placed geo view d place c.requires.place.1 none w.in-Slot.slot w.in-Slot.block cells w.in-Slot.is (ap (λ (v : SmallVec Cell). v.items) w.cells-is ∙ w.in_ok-push-in-Slot.ensures.ok)
      | in-NewBlock+in_ok-push-in-NewBlock+in_ok-add_tables-in-NewBlock w ↦ blocks_placed geo view d place c.requires.place.1 none w.in-NewBlock.block w.in-NewBlock.tables w.push-in-NewBlock.new.self.items cells
          w.in-NewBlock.is w.in_ok-push-in-NewBlock.ensures.ok (ap (λ (v : SmallVec Cell). map cell v.items) w.cells-is ∙ w.in_ok-add_tables-in-NewBlock.ensures)
    ] in
    record {
      place_first = place_more place (map cell cells) (map cell c.add_grounds.new.cells.items) c.in_ok-add_grounds.ensures.gathers.kept placed.1;
      grounds = λ e way. subst (λ first. IsGrounded geo view e first (map cell c.add_grounds.new.cells.items)) (placed.2 c.new-cells.ensures.items) (c.in_ok-add_grounds.ensures.grounds e way);
    }
