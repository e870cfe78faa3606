use Rattle.std.proofs.Common.{length}
use Rattle.live_renames.proofs.moving.+add_tables.Given as goal

-- the tables that are left
abbrev pub decreases-add_tables : goal.decreases-add_tables
decreases-add_tables l = length l.tables
