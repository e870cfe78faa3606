-- The kinds of update, and what a volume can come to by updates of these kinds and by flushes.
use Rattle.std.specs.Prelude.{ℕ, Bool, true, false, List, [], ◌∷◌, IsTrue, IsFalse}
use Rattle.model.specs.Layout.{Geometry, is_number}
use Rattle.model.specs.View.{View, Inode}
use Rattle.model.specs.Cells.{SetInode, SetNumber, SetBlock, SetBytes}
use Rattle.model.specs.Reach.{IsReachable}
use Rattle.model.specs.Rules.{ObeysRules}
use Rattle.ordering.specs.Cuts.{Cell, Pending, IsClosed, seen, rest, users_view}
use Rattle.ordering.specs.Ghosts.{Ghost, at_rest}
use Rattle.ordering.specs.Kinds.{MayFill, MayWrite, MayRaise, MayLower, MayClearNumber, MayClearBlock, number_cleared, block_cleared, settled}
use Rattle.ordering.specs.Rewrites.{MayRewriteFile, MayGrowDirectory, MayCreate, MayFree, MayAppendSlot, MayMoveSlot, moved, freed, entered}
use Rattle.ordering.specs.OneSlot.{MayRemove, MayEnter, MayRename, MayRemoveDirectory, MayEnterDirectory, removed, removed_directory, now_entered}

-- an update that may be issued now, and the ghosts after it
pub data Step (geo : Geometry) (disk : View) (q : List Pending) (ghost : Ghost) : Pending → Ghost → Type 0 where
  SetsBlock : (after : List Cell) (b : ℕ) → IsFalse ((users_view disk q).block_marked b) → Step geo disk q ghost (record { change = SetBlock b true; after = after }) ghost
  SetsNumber : (after : List Cell) (n : ℕ) → IsTrue (is_number geo n) → IsFalse ((users_view disk q).number_marked n) → Step geo disk q ghost (record { change = SetNumber n true; after = after }) ghost
  ClearsNumber : (after : List Cell) (n : ℕ) → MayClearNumber (users_view disk q) ghost after n → Step geo disk q ghost (record { change = SetNumber n false; after = after }) (number_cleared n ghost)
  ClearsBlock : (after : List Cell) (b : ℕ) → MayClearBlock geo (users_view disk q) ghost after b → Step geo disk q ghost (record { change = SetBlock b false; after = after }) (block_cleared b ghost)
  Fills : (after : List Cell) (b : ℕ) (bytes : List ℕ) → MayFill geo (users_view disk q) ghost after b → Step geo disk q ghost (record { change = SetBytes b bytes; after = after }) ghost
  Writes : (after : List Cell) (n p b : ℕ) (bytes : List ℕ) → MayWrite geo (users_view disk q) n p b → Step geo disk q ghost (record { change = SetBytes b bytes; after = after }) ghost
  Raises : (after : List Cell) (n : ℕ) (inode : Inode) → MayRaise geo (users_view disk q) n inode → Step geo disk q ghost (record { change = SetInode n inode; after = after }) ghost
  Lowers : (after : List Cell) (n : ℕ) (inode : Inode) → MayLower geo (users_view disk q) ghost after n inode → Step geo disk q ghost (record { change = SetInode n inode; after = after }) (settled n ghost)
  RewritesFile : (held : ℕ → Bool) (given_up : ℕ → ℕ → ℕ → Bool) (after : List Cell) (n : ℕ) (inode : Inode) → MayRewriteFile geo disk q ghost (moved held given_up ghost) after n inode
      → Step geo disk q ghost (record { change = SetInode n inode; after = after }) (moved held given_up ghost)
  GrowsDirectory : (after : List Cell) (n : ℕ) (inode : Inode) → MayGrowDirectory geo disk q ghost after n inode → Step geo disk q ghost (record { change = SetInode n inode; after = after }) ghost
  CreatesFile : (after : List Cell) (n : ℕ) (inode : Inode) → MayCreate geo disk q ghost after n inode → Step geo disk q ghost (record { change = SetInode n inode; after = after }) ghost
  CreatesDirectory : (after : List Cell) (n : ℕ) (inode : Inode) → MayCreate geo disk q ghost after n inode → Step geo disk q ghost (record { change = SetInode n inode; after = after }) (entered n ghost)
  Frees : (held : ℕ → Bool) (given_up : ℕ → ℕ → ℕ → Bool) (after : List Cell) (n : ℕ) (inode : Inode) → MayFree geo disk q ghost (freed held given_up n ghost) after n inode
      → Step geo disk q ghost (record { change = SetInode n inode; after = after }) (freed held given_up n ghost)
  AppendsSlot : (after : List Cell) (n m x : ℕ) (bytes : List ℕ) → MayAppendSlot geo (users_view disk q) after n m x bytes → Step geo disk q ghost (record { change = SetBytes x bytes; after = after }) ghost
  MovesSlot : (held : ℕ → Bool) (given_up : ℕ → ℕ → ℕ → Bool) (after : List Cell) (n m x p : ℕ) (bytes : List ℕ) → MayMoveSlot geo disk q ghost (moved held given_up ghost) after n m x p bytes
      → Step geo disk q ghost (record { change = SetBytes x bytes; after = after }) (moved held given_up ghost)
  Removes : (after : List Cell) (block : ℕ) (bytes : List ℕ) (d s i : ℕ) (name : List ℕ) (safe : ℕ → Bool) → MayRemove geo (users_view disk q) ghost safe after block bytes d s i name
      → Step geo disk q ghost (record { change = SetBytes block bytes; after = after }) (removed i d s block safe ghost)
  Enters : (after : List Cell) (block : ℕ) (bytes : List ℕ) (d s i : ℕ) (name : List ℕ) → MayEnter geo (users_view disk q) ghost after block bytes d s i name
      → Step geo disk q ghost (record { change = SetBytes block bytes; after = after }) ghost
  Renames : (after : List Cell) (block : ℕ) (bytes : List ℕ) (d s i : ℕ) (old new : List ℕ) → MayRename geo (users_view disk q) after block bytes d s i old new
      → Step geo disk q ghost (record { change = SetBytes block bytes; after = after }) ghost
  RemovesDirectory : (after : List Cell) (block : ℕ) (bytes : List ℕ) (d s i b : ℕ) (name : List ℕ) → MayRemoveDirectory geo (users_view disk q) ghost after block bytes d s i b name
      → Step geo disk q ghost (record { change = SetBytes block bytes; after = after }) (removed_directory i d s block b ghost)
  EntersDirectory : (after : List Cell) (block : ℕ) (bytes : List ℕ) (d s i b : ℕ) (name : List ℕ) → MayEnterDirectory geo disk q ghost after block bytes d s i b name
      → Step geo disk q ghost (record { change = SetBytes block bytes; after = after }) (now_entered i ghost)

-- what a volume comes to: a device, what is pending over it, and the ghosts
pub data Comes_to (geo : Geometry) : View → List Pending → Ghost → Type 0 where
  Begins : (disk : View) (held safe : ℕ → Bool) → ObeysRules geo disk → ((f : ℕ) → IsTrue (safe f) → IsReachable geo disk f)
      → Comes_to geo disk [] (at_rest held safe)
  Issues : {disk : View} {q : List Pending} {ghost : Ghost} (u : Pending) (ghost' : Ghost) → Comes_to geo disk q ghost → Step geo disk q ghost u ghost' → Comes_to geo disk (u ∷ q) ghost'
  Flushes : {disk : View} {q : List Pending} {ghost : Ghost} (cut : List Bool) → Comes_to geo disk q ghost → IsClosed q cut → Comes_to geo (seen disk q cut) (rest q cut) ghost

-- what each closed cut shows: a view that obeys the rules, where the safe files are reachable
pub record IsSafeCut (geo : Geometry) (view : View) (ghost : Ghost) : Type 0 where
  pub rules : ObeysRules geo view
  pub files : (f : ℕ) → IsTrue (ghost.safe f) → IsReachable geo view f
