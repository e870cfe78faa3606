-- What the blocks in memory become with some changes.
use Rattle.std.specs.Prelude.{◌≡◌, ◌≢◌, ℕ, ◌<◌, List, [], ◌∷◌, length, map, replicate, unwrap_or, All, IsSome, ◌⊎◌, slice_index_or}
use Rattle.std.specs.List.{Contains}
use Rattle.model.specs.View.{View}
use Rattle.model.specs.Cells.{Update, SetInode, SetNumber, SetBlock, SetBytes, updated_all}
use Rattle.updates.specs.declared.change.Update as program
use Rattle.updates.specs.Values.{change}
use Rattle.frozen.specs.declared.frozen.Placed.{Placed}
use Rattle.frozen.specs.Kept.{Kept, KeepsFrame, kept_at}
use Rattle.frozen.specs.Installed.{FitsAt, FitsIn as Fits, standing, with_block, with_blocks}
use Rattle.metadata.specs.Free.{Free, IsFreeOf}
use Rattle.model.specs.Image.{IsBlock}
use Rattle.model.specs.Layout.{Geometry, block_count}
use Rattle.ordering.specs.Cuts.{cell_of}
use Rattle.queue_model.specs.Blocks.{home_of}
use Rattle.updates.specs.Alone.{IsPutInto}
use Rattle.updates.specs.Places.{IsCell}
use Rattle.metadata.specs.declared.staged.Staged.{Staged}
use Rattle.metadata.specs.declared.staged.Bit.{Bit}
use Rattle.metadata.specs.declared.staged.Bit.TheVariants.{Number, Block}
use Rattle.metadata.specs.Shown.{Shows}

-- a bit and its new value, as an update
abbrev pub bit : Bit → Update
bit (Number n marked) = SetNumber n marked
bit (Block a marked) = SetBlock a marked

-- the bit is one of the volume's, and these are bits of a volume in which this is what may be given out
abbrev pub IsBitOf : Geometry → Bit → Type 0
IsBitOf geo b = IsCell geo (cell_of (bit b))

pub record AreBitsOf (free : Free) (bits : List Bit) : Type 0 where
  pub geometry : Geometry
  pub view : View
  pub free_of : IsFreeOf geometry view free
  pub each : All (IsBitOf geometry) bits

-- the updates of bits among these
abbrev pub bits_of : List Update → List Update
bits_of [] = []
bits_of (SetInode n inode ∷ us) = bits_of us
bits_of (SetNumber n marked ∷ us) = SetNumber n marked ∷ bits_of us
bits_of (SetBlock a marked ∷ us) = SetBlock a marked ∷ bits_of us
bits_of (SetBytes a bytes ∷ us) = bits_of us

-- the changes of a command's updates
abbrev pub changes : List program.Update → List Update
changes us = map (λ (u : program.Update). change u.change) us

-- some of these updates gives this block its bytes
abbrev pub GivesBytes : List Update → ℕ → Type 0
GivesBytes us a = (bytes : List ℕ) × Contains us (SetBytes a bytes)

-- what is kept with staged blocks
abbrev pub after : Kept → Staged → Kept
after kept staged = with_blocks kept (map standing staged.blocks.items)

-- These updates were staged over what is kept.
pub record IsStaged (kept : Kept) (us : List Update) (staged : Staged) : Type 0 where
  pub fits : All (Fits kept.geometry) staged.blocks.items
  -- what shows a view shows it after these updates then
  pub view : (users : View) → Shows kept users → Shows (after kept staged) (updated_all users us)
  -- what was kept stays kept, and so is each block that they give bytes
  pub more : (a : ℕ) → IsSome (kept_at kept.blocks a) ⊎ GivesBytes us a → IsSome (kept_at (after kept staged).blocks a)
  -- and each is one of a cell of the volume
  pub cells : All (λ u. IsCell kept.geometry (cell_of u)) us
  pub bits : map bit staged.bits.items ≡ bits_of us

-- With the new blocks in their places the block of a change's address is what it was with the old ones, with the change put into it; all else is as it was.
pub record HasChange (kept : Kept) (u : Update) (old new : List Placed) : Type 0 where
  pub frame : KeepsFrame kept
  pub bytes : List ℕ
  pub behind : 0 < home_of kept.geometry (cell_of u)
  pub low : home_of kept.geometry (cell_of u) < block_count kept.geometry
  pub whole : IsBlock bytes
  pub put : IsPutInto kept.geometry u (unwrap_or (kept_at (with_blocks kept (map standing old)).blocks (home_of kept.geometry (cell_of u))) (replicate 1024 0)) bytes
  pub then : with_blocks kept (map standing new) ≡ with_block (with_blocks kept (map standing old)) (home_of kept.geometry (cell_of u)) bytes
  pub each : FitsAt kept.geometry (home_of kept.geometry (cell_of u)) bytes → All (Fits kept.geometry) old → All (Fits kept.geometry) new

-- none of these blocks is to stand at this address, or this one is the last that is
abbrev pub NoneAt : List Placed → ℕ → Type 0
NoneAt ps a = (k : ℕ) (d : Placed) → k < length ps → (slice_index_or ps k d).address ≢ a

pub record IsLastAt (ps : List Placed) (a k : ℕ) : Type 0 where
  pub low : k < length ps
  pub here : (d : Placed) → (slice_index_or ps k d).address ≡ a
  pub last : (j : ℕ) (d : Placed) → k < j → j < length ps → (slice_index_or ps j d).address ≢ a
