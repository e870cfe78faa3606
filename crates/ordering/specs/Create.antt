-- A file is created: its number's bit, its record, and its entry.
use Rattle.std.specs.Prelude.{ℕ, true, List, [], ◌∷◌, IsTrue, IsFalse}
use Rattle.std.specs.List.{Contains}
use Rattle.model.specs.Layout.{Geometry, is_number}
use Rattle.model.specs.View.{View, new_file}
use Rattle.model.specs.Cells.{SetInode, SetNumber, SetBytes}
use Rattle.model.specs.Slots.{Empty, Good}
use Rattle.ordering.specs.Cuts.{Cell, Record, NumberBit, Pending}
use Rattle.ordering.specs.OneSlot.{ChangesSlot, IsNewName}

-- the updates of the command, newest first
abbrev pub creation : ℕ → ℕ → List ℕ → List Cell → List Pending → List Pending
creation n block bytes after q =
    record { change = SetBytes block bytes; after = after }
    ∷ record { change = SetInode n new_file; after = NumberBit n ∷ [] }
    ∷ record { change = SetNumber n true; after = [] } ∷ q

pub record MayCreateFile (geo : Geometry) (users : View) (n block : ℕ) (bytes : List ℕ) (d s : ℕ) (name : List ℕ) (after : List Cell) : Type 0 where
  pub number : IsTrue (is_number geo n)
  pub unmarked : IsFalse (users.number_marked n)
  pub change : ChangesSlot geo users block bytes d s Empty (Good n name)
  pub fresh_name : IsNewName geo users after block d s name
  pub record_first : Contains after (Record n)
