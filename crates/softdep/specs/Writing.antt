-- What a flush writes.
use Rattle.std.specs.Prelude.{ℕ, Bool, List, ◌↔◌}
use Rattle.std.specs.List.{All, Contains}
use Rattle.model.specs.Layout.{Geometry}
use Rattle.model.specs.Cells.{Update}
use Rattle.ordering.specs.Cuts.{Pending, cell_of}
use Rattle.queue_model.specs.Blocks.{home_of}
use Rattle.queue_model.specs.Flush.{IsOfBlock, TakesChange}
use Rattle.updates.specs.Alone.{IsPutAll}
use Rattle.updates.specs.Places.{IsCell}

-- The new block is the old one with changes put into it, which are those that a cut of this block's pending updates takes, and no others.
pub record WritesTaken (geo : Geometry) (a : ℕ) (q : List Pending) (cut : List Bool) (old new : List ℕ) : Type 0 where
  pub own : IsOfBlock (home_of geo) a q cut
  pub changes : List Update
  pub put : IsPutAll geo changes old new
  pub cells : All (λ u. IsCell geo (cell_of u)) changes
  pub taken : (u : Update) → Contains changes u ↔ TakesChange q cut u
