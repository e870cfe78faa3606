-- The listing of a directory from a slot on.
use Rattle.std.specs.Prelude.{ℕ, zero, suc, ◌+◌, ◌*◌, ◌-◌, ◌==◌, Bool, true, false, nat_le, List, [], ◌∷◌, ◌++◌, length, if◌then◌else◌}
use Rattle.fuse_wire.specs.declared.entries.Kind.{Kind}
use Rattle.fuse_wire.specs.declared.entries.Kind.TheVariants as kinds
use Rattle.fuse_wire.specs.Fields.{numbers}
use Rattle.fuse_wire.specs.Replies.{kind_number, padded}
use Rattle.model.specs.Layout.{Geometry}
use Rattle.model.specs.Slots.{Slot, Absent, Empty, Good, Bad, slot}
use Rattle.model.specs.Uses.{blocks_of}
use Rattle.model.specs.View.{View}
use Rattle.fuse_reader.specs.Shown.{kind_at}

-- the kind of this number
abbrev pub kind_numbered : ℕ → Kind
kind_numbered n =
    if n == 1 then kinds.Fifo
    else if n == 2 then kinds.CharacterDevice
    else if n == 4 then kinds.Directory
    else if n == 6 then kinds.BlockDevice
    else if n == 10 then kinds.SymbolicLink
    else if n == 12 then kinds.Socket
    else kinds.File

abbrev pub kind_of : Geometry → View → ℕ → Kind
kind_of geo view i = kind_numbered (kind_at geo view i)

-- The entry of a name in slot s that stands for inode i. The listing goes on from the next slot.
abbrev pub listed_name : Geometry → View → ℕ → ℕ → List ℕ → List ℕ
listed_name geo view s i name = (numbers 8 (i ∷ (s + 1) ∷ []) ++ numbers 4 (length name ∷ kind_number (kind_of geo view i) ∷ [])) ++ padded name

-- what is listed so far, and whether the next name had no room
pub record Listing : Type 0 where
  pub bytes : List ℕ
  pub full : Bool

abbrev pub so_far : List ℕ → Bool → Listing
so_far bytes full = record { bytes = bytes; full = full }

-- an entry is added while there is room
abbrev pub add_bytes : ℕ → List ℕ → Listing → Listing
add_bytes room entry l =
    if l.full then l
    else (if nat_le (length l.bytes + length entry) room then so_far (l.bytes ++ entry) false else so_far l.bytes true)

-- and the name in slot s, if one stands there
abbrev pub add_slot : Geometry → View → ℕ → ℕ → Slot → Listing → Listing
add_slot geo view room s Absent l = l
add_slot geo view room s Empty l = l
add_slot geo view room s (Good i name) l = add_bytes room (listed_name geo view s i name) l
add_slot geo view room s Bad l = l

-- the names in n slots of directory d, of which this is the first: none is left out before the first for which there is no room
unfoldable pub listed : Geometry → View → ℕ → ℕ → ℕ → ℕ → Listing
listed geo view d room from zero = so_far [] false
listed geo view d room from (suc n) = add_slot geo view room (from + n) (slot geo view d (from + n)) (listed geo view d room from n)

-- the slots of its blocks
abbrev pub slots_of : View → ℕ → ℕ
slots_of view d = 16 * blocks_of (view.inode d).size

-- from this slot on
abbrev pub listing_from : Geometry → View → ℕ → ℕ → ℕ → List ℕ
listing_from geo view d from room = (listed geo view d room from (slots_of view d - from)).bytes
