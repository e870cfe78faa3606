use Rattle.std.proofs.Common.{◌≤◌, map}
use Rattle.frozen.specs.Kept.{frozen_view}
use Rattle.model.specs.Shape.{most_blocks}
use Rattle.updates.specs.Values.{cell}
use Rattle.live_renames.proofs.GroundLemmas.{HasTables}
use Rattle.live_renames.proofs.grounds.add_directory.Given as goal

-- the record and the tables before are gathered
abbrev pub invariant-loop-table : goal.invariant-loop-table
invariant-loop-table l =
    HasTables l.frozen.geometry (frozen_view l.frozen) l.directory (map cell l.fn.cells.items) (map cell l.cells.items) l.table
    × (most_blocks l.frozen.geometry ≤ l.table) × (l.table ≤ l.end)
