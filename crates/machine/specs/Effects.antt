-- What each user command changes, and what it answers.
use Rattle.std.specs.Prelude.{◌≡◌, ◌≢◌, ℕ, zero, suc, ◌+◌, ◌-◌, ◌*◌, ◌<◌, max, true, false, not, ◌&&◌, ◌||◌, ◌==◌, nat_le, List, [], ◌∷◌, ◌++◌, length, take, drop, replicate, Some, None, IsTrue, IsFalse, if◌then◌else◌}
use Rattle.model.specs.Layout.{Geometry}
use Rattle.model.specs.View.{View, Inode, free_inode, new_file, with_attributes}
use Rattle.model.specs.Image.{IsBlock}
use Rattle.model.specs.Uses.{blocks_of}
use Rattle.model.specs.Slots.{Slot, Absent, Empty, Good, Bad, slot}
use Rattle.model.specs.Cells.{SetInode, SetNumber, SetBlock, SetBytes, put_at, updated, updated_all}
use Rattle.machine.specs.State.{State, handle_count, is_open, is_kept}
use Rattle.machine.specs.Command.{Name, Answer, Status}
use Rattle.machine.specs.Paths.{holder, name_in, slot_at, number_at}
use Rattle.machine.specs.Room.{IsFreeNumber, IsFreeBlock}
use Rattle.machine.specs.Causes.{file_of}
use Rattle.machine.specs.Cells.{block_of, seen, claims, with_entry, IsEntryFor, Places, Enters}

-- ---- what is given up

-- With its new view, the blocks that inode i claimed and no longer claims are held where a snapshot keeps them, and else unmarked.
abbrev pub lets_go : Geometry → State → ℕ → View → State
lets_go geo old i view =
    record old {
      view = record view { block_marked = λ a. view.block_marked a && not (claims geo old.view i a && not (claims geo view i a) && not (is_kept old a)) };
      held = λ a. old.held a || claims geo old.view i a && not (claims geo view i a) && is_kept old a;
    }

-- an inode without links that is not open is freed: its record and its bit, and its blocks are let go
abbrev pub swept : Geometry → State → ℕ → State
swept geo old i =
    if (old.view.inode i).links == 0 && not (is_open old i)
    then lets_go geo old i (updated_all old.view (SetInode i free_inode ∷ SetNumber i false ∷ []))
    else old

abbrev pub with_links : Inode → ℕ → Inode
with_links inode n = record inode { links = n }

-- an inode gets this number of links, and is freed if that leaves it without links and it is not open
abbrev pub relinked : Geometry → State → ℕ → ℕ → State
relinked geo old i n = swept geo (record old { view = updated old.view (SetInode i (with_links (old.view.inode i) n)) }) i

-- slot s of directory d is emptied
abbrev pub emptied : Geometry → State → ℕ → ℕ → State
emptied geo old d s = record old { view = with_entry geo old.view d s (replicate 64 0) }

-- ---- new records

-- a file, and a directory with this block, that are made with these attributes
abbrev pub file_with : List ℕ → Inode
file_with words = with_attributes new_file words

abbrev pub new_directory : ℕ → List ℕ → Inode
new_directory block words = record { mode = 2; links = 2; size = 1024; direct = block ∷ replicate 11 0; indirect = 0; double = 0; attributes = words }

-- a block with the dots of directory i, which stands in directory d, and zeroes
pub record AreDots (i d : ℕ) (bytes : List ℕ) : Type 0 where
  pub own : List ℕ
  pub parent : List ℕ
  pub names_own : IsEntryFor i (46 ∷ []) own
  pub names_parent : IsEntryFor d (46 ∷ 46 ∷ []) parent
  pub whole : bytes ≡ own ++ parent ++ replicate 896 0

-- ---- the commands

-- a file with one link, these attributes and no bytes
pub record Creates (geo : Geometry) (old : State) (path words : List ℕ) (i : ℕ) (new : State) : Type 0 where
  pub free : IsFreeNumber geo old.view i
  pub view : View
  pub enters : Enters geo (updated_all old.view (SetNumber i true ∷ SetInode i (file_with words) ∷ [])) (holder geo old.view path) (name_in path) i view
  pub whole : new ≡ record old { view = view }

-- a directory with two links, these attributes and one block with the dots, and a link more for its parent
pub record MakesDirectory (geo : Geometry) (old : State) (path words : List ℕ) (i : ℕ) (new : State) : Type 0 where
  pub free : IsFreeNumber geo old.view i
  pub block : ℕ
  pub free_block : IsFreeBlock geo old.view block
  pub bytes : List ℕ
  pub dots : AreDots i (holder geo old.view path) bytes
  pub view : View
  pub enters : Enters geo
      (updated_all old.view (SetNumber i true ∷ SetBlock block true
      ∷ SetInode (holder geo old.view path) (with_links (old.view.inode (holder geo old.view path)) ((old.view.inode (holder geo old.view path)).links + 1))
      ∷ SetBytes block bytes ∷ SetInode i (new_directory block words) ∷ []))
      (holder geo old.view path) (name_in path) i view
  pub whole : new ≡ record old { view = view }

-- one more name and one more link
pub record Links (geo : Geometry) (old : State) (path other : List ℕ) (new : State) : Type 0 where
  pub view : View
  pub enters : Enters geo
      (updated old.view (SetInode (number_at geo old.view path) (with_links (old.view.inode (number_at geo old.view path)) ((old.view.inode (number_at geo old.view path)).links + 1))))
      (holder geo old.view other) (name_in other) (number_at geo old.view path) view
  pub whole : new ≡ record old { view = view }

-- the entry goes, and a link with it
abbrev pub unlinked : Geometry → State → List ℕ → State
unlinked geo old path =
    relinked geo (emptied geo old (holder geo old.view path) (slot_at geo old.view path)) (number_at geo old.view path) ((old.view.inode (number_at geo old.view path)).links - 1)

-- the entry goes, with two links, and one link of the parent
abbrev pub removed : Geometry → State → List ℕ → State
removed geo old path =
    relinked geo
    (relinked geo (emptied geo old (holder geo old.view path) (slot_at geo old.view path)) (number_at geo old.view path) ((old.view.inode (number_at geo old.view path)).links - 2))
    (holder geo old.view path) ((old.view.inode (holder geo old.view path)).links - 1)

-- within a directory the slot's name changes; to another one there is a new entry, and the old one is emptied
pub data Renames (geo : Geometry) (old : State) (path other : List ℕ) (new : State) : Type 0 where
  Within : (entry : List ℕ) → holder geo old.view path ≡ holder geo old.view other → IsEntryFor (number_at geo old.view path) (name_in other) entry
      → new ≡ record old { view = with_entry geo old.view (holder geo old.view path) (slot_at geo old.view path) entry }
      → Renames geo old path other new
  Across : (view : View) → holder geo old.view path ≢ holder geo old.view other
      → Enters geo old.view (holder geo old.view other) (name_in other) (number_at geo old.view path) view
      → new ≡ emptied geo (record old { view = view }) (holder geo old.view path) (slot_at geo old.view path)
      → Renames geo old path other new

-- A free handle is opened.
pub record Opens (geo : Geometry) (old : State) (path : List ℕ) (h : ℕ) (new : State) : Type 0 where
  pub handle : h < handle_count
  pub free : old.opened h ≡ None
  pub whole : new ≡ record old { opened = put_at old.opened h (Some (number_at geo old.view path)) }

-- the handle is closed, and a file that was removed goes with its last one
abbrev pub closed : Geometry → State → ℕ → State
closed geo old h = swept geo (record old { opened = put_at old.opened h None }) (file_of old h)

-- a block whose first bytes are the piece and then what users saw behind it
pub record IsOverwritten (piece before bytes : List ℕ) : Type 0 where
  pub whole : IsBlock bytes
  pub begins : take (length (piece ++ drop (length piece) before)) bytes ≡ piece ++ drop (length piece) before

-- the size of file i after a piece at the start of its block k
abbrev pub size_after : View → ℕ → ℕ → List ℕ → ℕ
size_after view i k piece = max (view.inode i).size (1024 * k + length piece)

-- Block k of file i is replaced by one with these bytes.
pub data Stores (geo : Geometry) (old : State) (i k : ℕ) (bytes : List ℕ) (size : ℕ) (new : State) : Type 0 where
  -- in place, where no snapshot keeps it
  InPlace : k < blocks_of (old.view.inode i).size → IsFalse (is_kept old (block_of geo old.view i k))
      → new ≡ record old { view = updated_all old.view (SetBytes (block_of geo old.view i k) bytes ∷ SetInode i (record (old.view.inode i) { size = size }) ∷ []) }
      → Stores geo old i k bytes size new
  -- by an unmarked one, where it does
  Moved : (view : View) → k < blocks_of (old.view.inode i).size → IsTrue (is_kept old (block_of geo old.view i k))
      → Places geo old.view i k bytes size view → new ≡ lets_go geo old i view
      → Stores geo old i k bytes size new
  -- by an unmarked one, where the file ends before
  Appended : (view : View) → k ≡ blocks_of (old.view.inode i).size
      → Places geo old.view i k bytes size view → new ≡ record old { view = view }
      → Stores geo old i k bytes size new

pub record Writes (geo : Geometry) (old : State) (i k : ℕ) (piece : List ℕ) (new : State) : Type 0 where
  pub bytes : List ℕ
  pub overwritten : IsOverwritten piece (seen geo old.view i k) bytes
  pub stores : Stores geo old i k bytes (size_after old.view i k piece) new

-- the file gets a size that is no larger, and lets go what it no longer claims
abbrev pub truncated : Geometry → State → ℕ → ℕ → State
truncated geo old i n = lets_go geo old i (updated old.view (SetInode i (record (old.view.inode i) { size = n })))

-- an inode gets these attributes
abbrev pub attributed : State → ℕ → List ℕ → State
attributed old i words = record old { view = updated old.view (SetInode i (with_attributes (old.view.inode i) words)) }

-- the names in the slots of directory d from 2 on and below n, in order
abbrev pub named : Slot → List Name
named Absent = []
named Empty = []
named (Good number name) = record { name = name; number = number } ∷ []
named Bad = []

unfoldable pub names_below : Geometry → View → ℕ → ℕ → List Name
names_below geo view d zero = []
names_below geo view d (suc s) = names_below geo view d s ++ (if nat_le 2 s then named (slot geo view d s) else [])

abbrev pub status : View → ℕ → Answer
status view i = Status i (view.inode i).mode (view.inode i).links (view.inode i).size
