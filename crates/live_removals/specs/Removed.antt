-- The updates by which an entry goes.
use Rattle.std.specs.Prelude.{ℕ, List, [], ◌∷◌}
use Rattle.model.specs.Layout.{Geometry}
use Rattle.model.specs.View.{View}
use Rattle.ordering.specs.Cuts.{Cell}
use Rattle.plans_naming.specs.Entries.{no_entry, slot_written}
use Rattle.plans_naming.specs.Unlink.{lowered}
use Rattle.courses.specs.After.{AreBlocks}
use Rattle.live_states.specs.Drafts.{Draft, GoesOn}
use Rattle.live_states.specs.Holdings.{Holdings}
use Rattle.live_plans.specs.declared.locating.Found.{Found}
use Rattle.live_removals.specs.Links.{LosesLinks}

-- no updates yet
abbrev pub no_updates : Geometry → ℕ → Draft
no_updates geo file = record { geometry = geo; file = file; updates = [] }

-- the slot is emptied, after these cells, and then what it named has so many links less, and these blocks are held
pub record Leaves (geo : Geometry) (view : View) (holdings : Holdings) (found : Found) (fewer : ℕ) (after : List Cell) (draft : Draft) (holds : List ℕ) : Type 0 where
  pub emptied : Draft
  pub empties : GoesOn (no_updates geo found.number) emptied (λ q. slot_written found.block (view.bytes found.block) found.slot no_entry after ∷ q)
  pub loses : LosesLinks geo view holdings found.number fewer found.block emptied draft holds

-- the name of a file goes
abbrev pub Unlinked : Geometry → View → Holdings → Found → Draft → List ℕ → Type 0
Unlinked geo view holdings found draft holds = Leaves geo view holdings found 1 [] draft holds

-- the name of an open file goes, which stays with a link less
pub record Unnamed (geo : Geometry) (view : View) (found : Found) (draft : Draft) : Type 0 where
  pub emptied : Draft
  pub empties : GoesOn (no_updates geo found.number) emptied (λ q. slot_written found.block (view.bytes found.block) found.slot no_entry [] ∷ q)
  pub lowers : GoesOn emptied draft (lowered found.number (view.inode found.number) 1 found.block)

-- a directory goes, after its own blocks and nothing else, and then a link of its parent
pub record Removed (geo : Geometry) (view : View) (holdings : Holdings) (found : Found) (draft : Draft) (holds : List ℕ) : Type 0 where
  pub after : List Cell
  pub own_first : AreBlocks geo view found.number after
  pub left : Draft
  pub leaves : Leaves geo view holdings found 2 after left holds
  pub lowers : GoesOn left draft (lowered found.directory (view.inode found.directory) 1 found.block)
