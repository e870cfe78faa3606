-- The updates by which a directory gets one more block.
use Rattle.std.specs.Prelude.{◌≡◌, ℕ, List}
use Rattle.model.specs.Layout.{Geometry}
use Rattle.model.specs.View.{View, Inode}
use Rattle.model.specs.Uses.{blocks_of}
use Rattle.plans_data.specs.Append.{Holder, IsKeptIn, new_blocks}
use Rattle.plans_naming.specs.Grow.{grown}
use Rattle.live_states.specs.Drafts.{Draft, GoesOn}

-- Directory d, with this record before, gets a block of zeroes, and with it these new tables.
pub record Grows (geo : Geometry) (view : View) (d : ℕ) (inode : Inode) (block : ℕ) (chosen : List ℕ) (old new : Draft) : Type 0 where
  pub kept : Holder
  pub keeps : IsKeptIn geo view d (blocks_of (view.inode d).size) block kept
  pub tables : new_blocks kept ≡ chosen
  pub goes_on : GoesOn old new (grown geo d inode block kept)
