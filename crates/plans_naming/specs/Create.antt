-- A file is created: its number's bit, its record, and its entry.
use Rattle.std.specs.Prelude.{ℕ, true, List, [], ◌∷◌, IsTrue, IsFalse}
use Rattle.std.specs.List.{Contains}
use Rattle.model.specs.Layout.{Geometry, is_number}
use Rattle.model.specs.View.{View, Inode}
use Rattle.model.specs.Cells.{SetInode, SetNumber}
use Rattle.model.specs.Slots.{Empty}
use Rattle.machine.specs.Effects.{file_with}
use Rattle.ordering.specs.Cuts.{Cell, Record, NumberBit, Pending}
use Rattle.machine.specs.Cells.{IsEntryFor}
use Rattle.plans_data.specs.Append.{Holder}
use Rattle.plans_naming.specs.Grow.{CanEnterGrown, empty_block, grown}
use Rattle.plans_naming.specs.Entries.{StandsAt, TakesName, HasOtherBlocks, slot_written}

-- a free number gets its bit, and then its first record, which also comes after these cells
abbrev pub born : ℕ → Inode → List Cell → List Pending → List Pending
born n inode after q = record { change = SetInode n inode; after = NumberBit n ∷ after } ∷ record { change = SetNumber n true; after = [] } ∷ q

-- the updates of the command, newest first: number n with these attributes, and the slot of a block with these bytes
abbrev pub creating : ℕ → List ℕ → ℕ → List ℕ → ℕ → List ℕ → List Cell → List Pending → List Pending
creating n words block bytes s entry after q = slot_written block bytes s entry after ∷ born n (file_with words) [] q

-- what the command asks for where its directory has an empty slot
pub record CanCreate (geo : Geometry) (users : View) (n d s block : ℕ) (name entry : List ℕ) (after : List Cell) : Type 0 where
  -- the number may be given out, and is not
  pub number : IsTrue (is_number geo n)
  pub unmarked : IsFalse (users.number_marked n)
  -- the slot is empty, and the directory takes the name
  pub place : StandsAt geo users d s block Empty
  pub takes : TakesName geo users d name
  -- the entry says the number and the name
  pub says : IsEntryFor n name entry
  -- it is written after the record and the directory's other blocks
  pub record_first : Contains after (Record n)
  pub others_first : HasOtherBlocks geo users d block after

-- the updates of the command where directory d, with this record, gets block b for the entry
abbrev pub creating_grown : Geometry → ℕ → List ℕ → ℕ → Inode → ℕ → Holder → ℕ → List ℕ → List Cell → List Pending → List Pending
creating_grown geo n words d parent b holder s entry after q = slot_written b empty_block s entry after ∷ grown geo d parent b holder (born n (file_with words) [] q)

-- what the command asks for then
pub record CanCreateGrown (geo : Geometry) (users : View) (n d b : ℕ) (holder : Holder) (s : ℕ) (name entry : List ℕ) (after : List Cell) : Type 0 where
  pub number : IsTrue (is_number geo n)
  pub unmarked : IsFalse (users.number_marked n)
  pub enter : CanEnterGrown geo users d b holder s name after
  pub says : IsEntryFor n name entry
  pub record_first : Contains after (Record n)
