-- Which blocks have something ready.
use Rattle.std.specs.Prelude.{◌≡◌, ℕ, ◌<◌, ◌≤◌, Bool, false, not, List, [], length, slice_index_or}
use Rattle.lists.specs.Stacks.{Links, stack_at, count_of, is_empty}

-- the marked blocks are those whose stacks are not empty
pub record AreMarked (stacks : Links) (marks : List Bool) : Type 0 where
  pub count : length marks ≡ count_of stacks
  pub tells : (b : ℕ) → slice_index_or marks b false ≡ not (is_empty (stack_at stacks b))

-- the block has a number, and no block below it has one
pub record IsLeast (stacks : Links) (block : ℕ) : Type 0 where
  pub within : block < count_of stacks
  pub has : stack_at stacks block ≡ [] → ⊥
  pub least : (b : ℕ) → b < block → stack_at stacks b ≡ []

-- the block has a number, and no block from this one on and below it has one
pub record IsNext (stacks : Links) (from block : ℕ) : Type 0 where
  pub above : from ≤ block
  pub within : block < count_of stacks
  pub has : stack_at stacks block ≡ [] → ⊥
  pub least : (b : ℕ) → from ≤ b → b < block → stack_at stacks b ≡ []

-- no block from this one on has a number
abbrev pub NothingStandsFrom : Links → ℕ → Type 0
NothingStandsFrom stacks from = (b : ℕ) → from ≤ b → stack_at stacks b ≡ []

-- no block has a number
abbrev pub NothingStands : Links → Type 0
NothingStands stacks = (b : ℕ) → stack_at stacks b ≡ []
