-- Blocks of a file of which a copy is kept in memory.
use Rattle.std.specs.Prelude.{◌≡◌, ℕ, suc, ◌+◌, ◌-◌, ◌*◌, ◌%◌, ◌<◌, ◌≤◌, ◌==◌, if◌then◌else◌, Bool, true, false, Option, Some, None, List, [], ◌∷◌, ◌++◌, All, length, map, slice_index_or, take}
use Rattle.std.specs.Option.{option_map}
use Rattle.model.specs.Image.{block_at}
use Rattle.file_device.specs.declared.run.Run.{Run}
use Rattle.file_device.specs.declared.run.earlier.Earlier.{Earlier}
use Rattle.file_device.specs.declared.run.earlier.Slot.{Slot}
use Rattle.device.specs.Memory.{IsWriteTo}
use Rattle.device.specs.Writes.{Write, image_after}
use Rattle.file_device.specs.Calls.{Answered, AreHonest, has_refused, writes_from, writes_of}

-- the blocks of a run
abbrev pub blocks_of_run : Run → List (List ℕ)
blocks_of_run run = take run.span.count run.blocks.value.all

-- the blocks of a run, as writes
abbrev pub writes_of_run : Run → List Write
writes_of_run run = writes_from run.span.first (blocks_of_run run)

-- what these slots hold, as writes, the first slot being that of this number
abbrev pub slots_from : ℕ → List (Option Slot) → List (Option Write)
slots_from i [] = []
slots_from i (slot ∷ slots) = option_map (λ (s : Slot). (31 * s.quotient + i, s.block)) slot ∷ slots_from (suc i) slots

-- what each slot holds
abbrev pub slots_of : Earlier → List (Option Write)
slots_of earlier = slots_from 0 earlier.slots.value.all

-- the writes in slots
abbrev pub filled : List (Option Write) → List Write
filled [] = []
filled (None ∷ slots) = filled slots
filled (Some w ∷ slots) = w ∷ filled slots

-- the blocks that were read alone, as writes
abbrev pub writes_of_earlier : Earlier → List Write
writes_of_earlier earlier = filled (slots_of earlier)

-- the slot of this address holds this block for it
abbrev pub IsEarlier : Earlier → ℕ → List ℕ → Type 0
IsEarlier earlier a block = slice_index_or (slots_of earlier) (a % 31) None ≡ Some (a, block)

-- the writes that the file was not given yet: of what is kept, if that was written
abbrev pub waiting : Bool → Run → List Write
waiting true run = writes_of_run run
waiting false run = []

-- a run has this block at this address
pub record IsKept (run : Run) (address : ℕ) (block : List ℕ) : Type 0 where
  pub from : run.span.first ≤ address
  pub to : address < run.span.first + length (blocks_of_run run)
  pub is : block ≡ block_at (blocks_of_run run) (address - run.span.first)

-- the same run with another block at its end
abbrev pub with_block : Run → List ℕ → List Write
with_block run block = writes_of_run run ++ (run.span.first + run.span.count, block) ∷ []

-- the same write, but of this block where it is at this address
abbrev pub replaced_one : ℕ → List ℕ → Write → Write
replaced_one a block w = if w.0 == a then (a, block) else w

-- what is kept after a write: at its address its block, if one was kept there, and at all others what was kept
abbrev pub replaced : ℕ → List ℕ → List Write → List Write
replaced a block ws = map (replaced_one a block) ws

-- this block stands in the image at its address, if there is such an address
abbrev pub IsCopy : List (List ℕ) → Write → Type 0
IsCopy image w = w.0 < length image → w.1 ≡ block_at image w.0

-- so does each of these
abbrev pub AreCopies : List (List ℕ) → List Write → Type 0
AreCopies image [] = Unit {0}
AreCopies image (w ∷ ws) = IsCopy image w × AreCopies image ws

-- these writes leave the block of this address
abbrev pub IsUntouched : List Write → ℕ → Type 0
IsUntouched ws a = (image : List (List ℕ)) → block_at (image_after image ws) a ≡ block_at image a

-- What is kept of a file that held this image at first, answered these calls and was not given those writes: if each block that
-- the file gave was true, each that is kept, and each earlier one, is the block that stands there after all writes.
pub record IsKeeping (image : List (List ℕ)) (answered : List Answered) (waiting run singles : List Write) : Type 0 where
  pub whole : All (IsWriteTo (length image)) (writes_of answered ++ waiting)
  pub kept : AreHonest image answered → AreCopies (image_after image (writes_of answered ++ waiting)) run
  pub earlier : AreHonest image answered → AreCopies (image_after image (writes_of answered ++ waiting)) singles

-- The same of a device, and it knows whether the file refused a write or a sync.
pub record IsOfFile (image : List (List ℕ)) (answered : List Answered) (waiting run singles : List Write) (broken : Bool) : Type 0 where
  pub keeping : IsKeeping image answered waiting run singles
  pub heard : broken ≡ has_refused false answered
