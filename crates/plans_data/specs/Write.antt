-- A block of a file is written: in place, after its last block, or over a block that the snapshot keeps.
use Rattle.std.specs.Prelude.{◌≡◌, ℕ, ◌≤◌, ◌<◌, Bool, ◌||◌, ◌==◌, nat_lt, List, [], ◌∷◌, length, IsTrue, IsFalse, if◌then◌else◌}
use Rattle.model.specs.Layout.{Geometry}
use Rattle.model.specs.View.{View, Inode}
use Rattle.model.specs.Cells.{SetInode, SetBytes}
use Rattle.model.specs.Shape.{most_blocks}
use Rattle.model.specs.Uses.{blocks_of, is_sound_at}
use Rattle.machine.specs.State.{State, is_kept}
use Rattle.machine.specs.Room.{IsFreeBlock}
use Rattle.machine.specs.Cells.{block_of, seen}
use Rattle.machine.specs.Effects.{IsOverwritten}
use Rattle.ordering.specs.Cuts.{Cell, Block, Pending}
use Rattle.plans_data.specs.Append.{Holder, KeptInRecord, KeptInTable, KeptInNew, IsWhole, IsKeptIn, AreApart, new_blocks, filled, linked, known, sized, appended}

-- ---- the updates

-- the record with a larger size after these cells, where the size grows
abbrev pub enlarged : ℕ → Inode → ℕ → List Cell → List Pending → List Pending
enlarged n inode size after q = if nat_lt inode.size size then record { change = SetInode n (sized inode size); after = after } ∷ q else q

-- in place
abbrev pub written : ℕ → Inode → ℕ → List ℕ → ℕ → List Pending → List Pending
written n inode b bytes size q = enlarged n inode size (Block b ∷ []) (record { change = SetBytes b bytes; after = [] } ∷ q)

-- into block b, to which position k then points; the record is written only where it changes
abbrev pub relocated : Geometry → ℕ → Inode → ℕ → ℕ → List ℕ → ℕ → Holder → List Pending → List Pending
relocated geo n inode k b bytes size (KeptInTable m x table over) q =
    enlarged n inode size (known b (KeptInTable m x table over)) (linked geo n k b (KeptInTable m x table over) (filled b bytes q))
relocated geo n inode k b bytes size KeptInRecord q = appended geo n inode k b bytes size KeptInRecord q
relocated geo n inode k b bytes size (KeptInNew m x table up) q = appended geo n inode k b bytes size (KeptInNew m x table up) q

-- ---- when they may be issued

-- Block k of file n is to have these bytes: the piece, and then what users saw behind it.
pub record IsWrite (geo : Geometry) (view : View) (n k : ℕ) (piece bytes : List ℕ) : Type 0 where
  pub sound : IsTrue (is_sound_at geo view n)
  pub file : (view.inode n).mode ≡ 1
  pub some : 1 ≤ length piece
  pub few : length piece ≤ 1024
  pub overwritten : IsOverwritten piece (seen geo view n k) bytes

-- in place: the file has block k, and the snapshot does not keep it
pub record MayWriteInPlace (geo : Geometry) (old : State) (n k : ℕ) (piece bytes : List ℕ) : Type 0 where
  pub write : IsWrite geo old.view n k piece bytes
  pub inside : k < blocks_of (old.view.inode n).size
  pub not_kept : IsFalse (is_kept old (block_of geo old.view n k))

-- Each held block is marked.
abbrev pub HeldAreMarked : State → Type 0
HeldAreMarked old = (a : ℕ) → IsTrue (old.held a) → IsTrue (old.view.block_marked a)

-- after the last block: the file has k blocks, and gets an unmarked one
pub record MayWriteAppended (geo : Geometry) (old : State) (n k b : ℕ) (piece bytes : List ℕ) (holder : Holder) : Type 0 where
  pub write : IsWrite geo old.view n k piece bytes
  pub whole : IsWhole geo old.view
  pub held : HeldAreMarked old
  pub next : k ≡ blocks_of (old.view.inode n).size
  pub room : k < most_blocks geo
  pub free : IsFreeBlock geo old.view b
  pub kept : IsKeptIn geo old.view n k b holder
  pub apart : AreApart (b ∷ new_blocks holder)

-- over a block that the snapshot keeps: the file has block k, and gets an unmarked one in its place
pub record MayWriteMoved (geo : Geometry) (old : State) (n k b : ℕ) (piece bytes : List ℕ) (holder : Holder) : Type 0 where
  pub write : IsWrite geo old.view n k piece bytes
  pub whole : IsWhole geo old.view
  pub held : HeldAreMarked old
  pub inside : k < blocks_of (old.view.inode n).size
  pub keeps : IsTrue (is_kept old (block_of geo old.view n k))
  pub free : IsFreeBlock geo old.view b
  pub kept : IsKeptIn geo old.view n k b holder

-- the blocks that are held once block k of file n has moved
abbrev pub held_besides : Geometry → State → ℕ → ℕ → ℕ → Bool
held_besides geo old n k a = old.held a || a == block_of geo old.view n k
