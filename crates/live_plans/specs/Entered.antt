-- The updates by which a name is entered into a directory.
use Rattle.std.specs.Prelude.{◌≡◌, ℕ, ◌/◌, List, ◌∷◌}
use Rattle.std.specs.List.{All, Contains}
use Rattle.model.specs.Layout.{Geometry}
use Rattle.model.specs.View.{View, Inode}
use Rattle.model.specs.Uses.{blocks_of}
use Rattle.ordering.specs.Cuts.{Cell, Record}
use Rattle.machine.specs.Cells.{IsEntryFor}
use Rattle.plans_data.specs.Append.{Holder, IsKeptIn, new_blocks}
use Rattle.plans_naming.specs.Entries.{HasBlocks, HasOtherBlocks, slot_written}
use Rattle.plans_naming.specs.Grow.{empty_block, grown}
use Rattle.courses.specs.After.{IsBeforeEntry}
use Rattle.live_places.specs.declared.choosing.Place.{Place}
use Rattle.live_places.specs.declared.choosing.Place.TheVariants.{Slot, NewBlock}
use Rattle.live_states.specs.Drafts.{Draft, GoesOn}

-- Into slot s of directory d, which stands in this block of it, goes the entry that gives a number its name.
pub record EntersSlot (geo : Geometry) (view : View) (d number : ℕ) (name : List ℕ) (s block : ℕ) (old new : Draft) : Type 0 where
  pub entry : List ℕ
  pub says : IsEntryFor number name entry
  -- after the number's record and the directory's other blocks, and after nothing else
  pub after : List Cell
  pub record_first : Contains after (Record number)
  pub others_first : HasOtherBlocks geo view d block after
  pub only : All (IsBeforeEntry geo view d number) after
  pub goes_on : GoesOn old new (λ q. slot_written block (view.bytes block) s entry after ∷ q)

-- It goes into a new block, with these new tables; before the directory grows its record is this.
pub record EntersNewBlock (geo : Geometry) (view : View) (d : ℕ) (inode : Inode) (number : ℕ) (name : List ℕ) (block : ℕ) (chosen : List ℕ) (old new : Draft) : Type 0 where
  pub kept : Holder
  pub keeps : IsKeptIn geo view d (blocks_of (view.inode d).size) block kept
  pub tables : new_blocks kept ≡ chosen
  pub slot : ℕ
  pub stands : slot / 16 ≡ blocks_of (view.inode d).size
  pub entry : List ℕ
  pub says : IsEntryFor number name entry
  -- after the number's record and the directory's blocks, and after nothing else
  pub after : List Cell
  pub record_first : Contains after (Record number)
  pub blocks_first : HasBlocks geo view d after
  pub only : All (IsBeforeEntry geo view d number) after
  pub goes_on : GoesOn old new (λ q. slot_written block empty_block slot entry after ∷ grown geo d inode block kept q)

-- and so at this place
abbrev pub EntersAt : Geometry → View → ℕ → Inode → ℕ → List ℕ → Place → Draft → Draft → Type 0
EntersAt geo view d inode number name (Slot s block) old new = EntersSlot geo view d number name s block old new
EntersAt geo view d inode number name (NewBlock block tables) old new = EntersNewBlock geo view d inode number name block tables old new
