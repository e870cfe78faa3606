-- First the record, then each table that the directory claims; no other cells come.
use Rattle.std.proofs.Common.{◌≡◌, ◌+◌, map, sym, ap, ◌∙◌, subst, arith, le-leb, IsTrue}
use Rattle.std.proofs.lemmas.Bool.{and_parts}
use Rattle.frozen.specs.Kept.{frozen_view}
use Rattle.model.specs.Layout.{is_number}
use Rattle.model.specs.Shape.{is_table, most_blocks, tables}
use Rattle.model.specs.Uses.{blocks_of, is_directory, is_sound, is_sound_at}
use Rattle.model.proofs.SlotLemmas.{directory_number}
use Rattle.model.proofs.Uses.{sound_few}
use Rattle.updates.specs.Values.{cell}
use Rattle.live_renames.proofs.GroundLemmas.{HasTables, all_tables, no_table_more, record_alone, table_more}
use Rattle.live_renames.proofs.grounds.add_directory.Goals as goal
use Rattle.live_renames.proofs.grounds.add_directory.Goals.{in-Some+in_ok-push-2, in_default}

pub loop-table-init : goal.loop-table-init
loop-table-init c =
    let geo = c.args.frozen.now.geometry in
    let d = c.args.directory in
    let first : c.most_blocks-table.result ≡ most_blocks geo = c.most_blocks-table.ensures.count ∙ ap most_blocks c.geometry-geometry.ensures.geometry in
    let end = c.tables_end-end.ensures.end ∙ ap (λ g. most_blocks g + tables c.blocks-2.result) c.geometry-geometry.ensures.geometry in (
      subst (λ m. HasTables geo (frozen_view c.args.frozen.now) d (map cell c.args.cells.now.items) (map cell c.push.new.self.items) m) (sym first)
          (record_alone geo (frozen_view c.args.frozen.now) d c.args.cells.now.items c.push.new.self.items (directory_number geo (frozen_view c.args.frozen.now) d c.requires) c.in_ok-push.ensures.ok),
      omega (arith, first),
      omega (arith, first, end),
    )

pub loop-table-preserved : goal.loop-table-preserved
loop-table-preserved c =
    let geo = c.args.frozen.now.geometry in
    let view = frozen_view c.args.frozen.now in
    let d = c.args.directory in
    let m = c.loop-table.table in
    let xs = c.args.cells.now.items in
    let inv = c.loop-table.invariant in
    let table : IsTrue (is_table geo m) = le-leb (most_blocks geo) m inv.1 in (
      elim c.match-claim_at.branch [
        | in-Some+in_ok-push-2 w ↦ rw (w.cells-is)
            (table_more geo view d xs c.loop-table.cells.items w.push-in-Some.new.self.items m w.in-Some.block table (sym c.claim_at.ensures ∙ w.in-Some.is) w.in_ok-push-2.ensures.ok inv.0)
        | in_default w ↦ rw (w.cells-is) (no_table_more geo view d xs c.loop-table.cells.items m (sym c.claim_at.ensures ∙ w.in_default.is) inv.0)
      ],
      omega (arith, inv.1),
      omega (arith, c.loop-table-test.true),
    )

pub returns : goal.returns
returns c =
    let geo = c.args.frozen.now.geometry in
    let view = frozen_view c.args.frozen.now in
    let d = c.args.directory in
    let inv = c.loop-table.invariant in
    let blocks : c.blocks-2.result ≡ blocks_of (view.inode d).size = c.blocks-2.ensures in
    let end : c.tables_end-end.result ≡ most_blocks geo + tables (blocks_of (view.inode d).size) =
    c.tables_end-end.ensures.end ∙ ap (λ g. most_blocks g + tables c.blocks-2.result) c.geometry-geometry.ensures.geometry ∙ ap (λ n. most_blocks geo + tables n) blocks in
    let at : c.loop-table.table ≡ most_blocks geo + tables (blocks_of (view.inode d).size) = omega (arith, c.loop-table-test.false, inv.2, end) in
    let all = subst (λ m. HasTables geo view d (map cell c.args.cells.now.items) (map cell c.loop-table.cells.items) m) at inv.0 in record {
      gathers = all.gathers;
      directory = all_tables geo view d c.args.cells.now.items (map cell c.loop-table.cells.items) all;
      only = all.only;
    }

-- a sound directory has few enough blocks
pub tables_end-end-requires : goal.tables_end-end-requires
tables_end-end-requires c =
    let geo = c.args.frozen.now.geometry in
    let view = frozen_view c.args.frozen.now in
    let d = c.args.directory in
    let sound = (and_parts (is_sound_at geo view d) (is_directory (view.inode d)) c.requires).0 in
    let few = sound_few geo (view.inode d) (and_parts (is_number geo d) (is_sound geo (view.inode d)) sound).1 in
    let blocks : c.blocks-2.result ≡ blocks_of (view.inode d).size = c.blocks-2.ensures in
    let most = ap most_blocks c.geometry-geometry.ensures.geometry in
    omega (arith, few, blocks, most)
