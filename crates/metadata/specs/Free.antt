-- What of a volume may be given out: its numbers and data blocks that are not marked.
use Rattle.std.specs.Prelude.{◌≡◌, ℕ, ◌<◌, ◌≤◌, ◌^◌, Bool, false, not, ◌&&◌, List, length, nat_lt, slice_index_or, if◌then◌else◌}
use Rattle.model.specs.Layout.{Geometry, is_number, is_data_address, inode_count, block_count}
use Rattle.model.specs.View.{View}
use Rattle.model.specs.Reach.{sum_below}
use Rattle.machine.specs.Room.{IsFreeNumber, IsFreeBlock}

-- for each number, and each address, whether it may be given out
pub record Free : Type 0 where
  pub numbers : List Bool
  pub blocks : List Bool

-- how many are marked in a list
abbrev pub marked_in : List Bool → ℕ
marked_in marks = sum_below (length marks) (λ k. if slice_index_or marks k false then 1 else 0)

-- so many are, of fewer than 2^32 in all
pub record IsCounted (count : ℕ) (marks : List Bool) : Type 0 where
  pub marked : count ≡ marked_in marks
  pub few : length marks < 2 ^ 32

-- exactly the numbers that are given out and are not marked may be given out
pub record AreFreeNumbers (geo : Geometry) (view : View) (marks : List Bool) : Type 0 where
  pub count : length marks ≡ inode_count geo
  pub each : (i : ℕ) → slice_index_or marks i false ≡ (is_number geo i && not (view.number_marked i))

-- and exactly the data blocks that are not
pub record AreFreeBlocks (geo : Geometry) (view : View) (marks : List Bool) : Type 0 where
  pub count : length marks ≡ block_count geo
  pub each : (a : ℕ) → slice_index_or marks a false ≡ (is_data_address geo a && not (view.block_marked a))

-- of so many numbers, exactly those that pass and are below a bound are marked
pub record AreMarkedBelow (all : ℕ) (passes : ℕ → Bool) (bound : ℕ) (marks : List Bool) : Type 0 where
  pub count : length marks ≡ all
  pub each : (n : ℕ) → slice_index_or marks n false ≡ (passes n && nat_lt n bound)

-- of the numbers below a bound exactly those may be given out that are given out and not marked, and of the addresses
abbrev pub AreFreeNumbersBelow : Geometry → View → ℕ → List Bool → Type 0
AreFreeNumbersBelow geo view bound marks = AreMarkedBelow (inode_count geo) (λ i. is_number geo i && not (view.number_marked i)) bound marks

abbrev pub AreFreeBlocksBelow : Geometry → View → ℕ → List Bool → Type 0
AreFreeBlocksBelow geo view bound marks = AreMarkedBelow (block_count geo) (λ a. is_data_address geo a && not (view.block_marked a)) bound marks

pub record IsFreeOf (geo : Geometry) (view : View) (free : Free) : Type 0 where
  pub numbers : AreFreeNumbers geo view free.numbers
  pub blocks : AreFreeBlocks geo view free.blocks

-- the least number that may be given out
pub record IsLeastNumber (geo : Geometry) (view : View) (i : ℕ) : Type 0 where
  pub free : IsFreeNumber geo view i
  pub least : (j : ℕ) → IsFreeNumber geo view j → i ≤ j

-- the least data block from an address on that may be given out
pub record IsNextBlock (geo : Geometry) (view : View) (from a : ℕ) : Type 0 where
  pub above : from ≤ a
  pub free : IsFreeBlock geo view a
  pub least : (b : ℕ) → from ≤ b → IsFreeBlock geo view b → a ≤ b
