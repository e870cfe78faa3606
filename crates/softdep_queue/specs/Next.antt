-- What goes to a block next, where a cut of the pending updates was written, and which block comes next, where blocks are flushed in the order of their addresses.
use Rattle.std.specs.Prelude.{◌≡◌, ℕ, ◌<◌, ◌≤◌, Bool, not, ◌&&◌, List, [], ◌∷◌}
use Rattle.ordering.specs.Cuts.{Cell, Pending}
use Rattle.queue_model.specs.Flush.{ready, taken}

-- what a cut takes and another does not
abbrev pub unwritten : List Bool → List Bool → List Bool
unwritten [] cut = cut
unwritten (d ∷ loose) [] = []
unwritten (d ∷ loose) (b ∷ cut) = (b && not d) ∷ unwritten loose cut

-- what may go to a block and was not written
abbrev pub to_write : (Cell → ℕ) → ℕ → List Pending → List Bool → List Bool
to_write home a q loose = unwritten loose (ready home a q)

abbrev pub HasToWrite : (Cell → ℕ) → List Pending → List Bool → ℕ → Type 0
HasToWrite home q loose a = 1 ≤ taken (to_write home a q loose)

-- the block is the least one with something to write
pub record IsLeastToWrite (home : Cell → ℕ) (q : List Pending) (loose : List Bool) (a : ℕ) : Type 0 where
  pub has : HasToWrite home q loose a
  pub least : (b : ℕ) → b < a → taken (to_write home b q loose) ≡ 0

-- the block is the least one from this one on with something to write
pub record IsNextToWrite (home : Cell → ℕ) (q : List Pending) (loose : List Bool) (from a : ℕ) : Type 0 where
  pub above : from ≤ a
  pub has : HasToWrite home q loose a
  pub least : (b : ℕ) → from ≤ b → b < a → taken (to_write home b q loose) ≡ 0

-- no block has something to write
abbrev pub NothingToWrite : (Cell → ℕ) → List Pending → List Bool → Type 0
NothingToWrite home q loose = (b : ℕ) → taken (to_write home b q loose) ≡ 0

-- no block from this one on has something to write
abbrev pub NothingToWriteFrom : (Cell → ℕ) → List Pending → List Bool → ℕ → Type 0
NothingToWriteFrom home q loose from = (b : ℕ) → from ≤ b → taken (to_write home b q loose) ≡ 0
