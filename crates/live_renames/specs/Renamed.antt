-- The updates by which an entry gets another name in its slot.
use Rattle.std.specs.Prelude.{◌≡◌, ℕ, List}
use Rattle.model.specs.View.{View}
use Rattle.ordering.specs.Cuts.{Cell, Pending}
use Rattle.frozen.specs.Kept.{Kept}
use Rattle.machine.specs.Cells.{IsEntryFor}
use Rattle.metadata.specs.Shown.{Shows}
use Rattle.plans_naming.specs.Rename.{renaming}
use Rattle.courses.specs.After.{AreOtherBlocks}
use Rattle.live_states.specs.Drafts.{Draft, over}
use Rattle.live_plans.specs.declared.locating.Found.{Found}

-- Where users see what is kept, they are these: the entry that was found says this name, after the directory's other blocks.
pub record IsRenamed (kept : Kept) (found : Found) (name : List ℕ) (draft : Draft) : Type 0 where
  pub geometry : draft.geometry ≡ kept.geometry
  pub file : draft.file ≡ found.number
  pub entry : List ℕ
  pub says : IsEntryFor found.number name entry
  pub after : List Cell
  pub others_first : (view : View) → Shows kept view → AreOtherBlocks kept.geometry view found.directory found.block after
  pub pending : (view : View) → Shows kept view → (q : List Pending) → over q draft.updates ≡ renaming found.block (view.bytes found.block) found.slot entry after q
