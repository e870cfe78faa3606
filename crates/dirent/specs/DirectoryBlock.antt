-- A block of a directory, and its slots.
use Rattle.std.specs.Prelude.{◌≡◌, ℕ, ◌+◌, ◌*◌, ◌^◌, ◌<◌, ◌≤◌, ◌⊎◌, List, ◌∷◌, ◌++◌, length, take, drop, map, replicate, slice_index, ◌-◌}
use Rattle.std.specs.List.{range_with_len}
use Rattle.byteorder.specs.Endian.{little_bytes}
use Rattle.model.specs.Slots.{Slot, Good, slot_of}

-- a block's bytes, its position in its directory, and how many inode numbers the volume has
pub record DirectoryBlock : Type 0 where
  pub bytes : List ℕ
  pub position : ℕ
  pub inodes : ℕ

-- these bytes as the block at a position of a directory
abbrev pub block_from : List ℕ → ℕ → ℕ → DirectoryBlock
block_from bytes position inodes = record { bytes = bytes; position = position; inodes = inodes }

-- the numbers of its slots fit in 32 bits, and a block has 1,024 bytes
pub record IsInDirectory (block : DirectoryBlock) : Type 0 where
  pub position : block.position < 2 ^ 28
  pub length : length block.bytes ≡ 1024

-- slot j of the block
abbrev pub slot_at : DirectoryBlock → ℕ → Slot
slot_at block j = slot_of block.inodes block.bytes (16 * block.position + j)

-- its slots in order
abbrev pub slots_of : DirectoryBlock → List Slot
slots_of block = map (slot_at block) (range_with_len 0 16)

-- the slot is the entry of some number under this name
abbrev pub HasName : List ℕ → Slot → Type 0
HasName name slot = (i : ℕ) × (slot ≡ Good i name)

-- slot j is such a slot, and no slot of the block before it is
pub record IsFirst (P : Slot → Type 0) (block : DirectoryBlock) (j : ℕ) : Type 0 where
  pub within : j < 16
  pub here : P (slot_at block j)
  pub before : (k : ℕ) → k < j → ¬ P (slot_at block k)

-- no slot of the block is such a slot
abbrev pub HasNone : (Slot → Type 0) → DirectoryBlock → Type 0
HasNone P block = (k : ℕ) → k < 16 → ¬ P (slot_at block k)

-- the bytes of slot j
abbrev pub slot_bytes : List ℕ → ℕ → List ℕ
slot_bytes bytes j = take 64 (drop (64 * j) bytes)

-- the bytes of an entry: its number, the length of its name, three zeroes, the name, and zeroes up to the slot's end
abbrev pub entry_bytes : ℕ → List ℕ → List ℕ
entry_bytes number name = little_bytes 4 number ++ (length name ∷ 0 ∷ 0 ∷ 0 ∷ name) ++ replicate (56 - length name) 0

-- the bytes with these as those of slot j
abbrev pub with_slot : List ℕ → ℕ → List ℕ → List ℕ
with_slot bytes j slot = take (64 * j) bytes ++ slot ++ drop (64 * j + 64) bytes

-- new is old with another slot j: no other slot and no byte outside slot j is changed
pub record ChangesSlot (old new : DirectoryBlock) (j : ℕ) (slot : Slot) : Type 0 where
  pub changed : slot_at new j ≡ slot
  pub other_slots : (k : ℕ) → k < 16 → (k ≡ j → ⊥) → slot_at new k ≡ slot_at old k
  pub other_bytes : (k : ℕ) → (k < 64 * j) ⊎ (64 * j + 64 ≤ k) → slice_index new.bytes k ≡ slice_index old.bytes k
  pub length : length new.bytes ≡ length old.bytes
  pub position : new.position ≡ old.position
  pub inodes : new.inodes ≡ old.inodes
