-- Where a directory has room for one more entry.
use Rattle.std.specs.Prelude.{◌≡◌, ℕ, ◌<◌, ◌+◌, length, IsFalse}
use Rattle.model.specs.Layout.{Geometry}
use Rattle.model.specs.View.{View}
use Rattle.model.specs.Shape.{most_blocks, new_tables}
use Rattle.model.specs.Uses.{blocks_of}
use Rattle.machine.specs.Room.{has_room}
use Rattle.live_places.specs.declared.rooms.Room.{Room}
use Rattle.live_places.specs.declared.rooms.Room.TheVariants.{Slot, NewBlock}
use Rattle.live_places.specs.Chosen.{IsEmptySlot}

-- Directory d has no empty slot and may have one block more, with which so many tables come.
pub record HasPosition (geo : Geometry) (view : View) (d count : ℕ) : Type 0 where
  pub none : IsFalse (has_room geo view d)
  pub left : blocks_of (view.inode d).size < most_blocks geo
  pub tables : length (new_tables geo (blocks_of (view.inode d).size)) ≡ count

-- there is this room in directory d
abbrev pub IsRoomOf : Geometry → View → ℕ → Room → Type 0
IsRoomOf geo view d (Slot s block) = IsEmptySlot geo view d s block
IsRoomOf geo view d (NewBlock tables) = HasPosition geo view d tables

-- how many blocks it takes to use it
abbrev pub blocks_for : Room → ℕ
blocks_for (Slot s block) = 0
blocks_for (NewBlock tables) = 1 + tables
