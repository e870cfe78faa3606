-- The updates by which a file gets a name in another directory in place of the one that it has.
use Rattle.std.specs.Prelude.{◌≡◌, ℕ, ◌<◌, List, [], ◌∷◌, Ok, IsFalse, IsTrue, map}
use Rattle.std.specs.List.{Contains}
use Rattle.model.specs.Layout.{Geometry, root}
use Rattle.model.specs.View.{View}
use Rattle.model.specs.Uses.{is_directory_at}
use Rattle.ordering.specs.Cuts.{Cell, Block, Pending}
use Rattle.frozen.specs.Kept.{Kept, frozen_view}
use Rattle.machine.specs.Paths.{last_part, walk}
use Rattle.machine.specs.Room.{is_full}
use Rattle.metadata.specs.Shown.{Shows}
use Rattle.plans_naming.specs.Link.{raised}
use Rattle.plans_naming.specs.Move.{left}
use Rattle.live_paths.specs.Shown.{IsShownBy}
use Rattle.live_places.specs.Chosen.{IsPlace}
use Rattle.live_places.specs.declared.choosing.Place.{Place}
use Rattle.live_places.specs.declared.choosing.Place.TheVariants.{Slot, NewBlock}
use Rattle.live_states.specs.Drafts.{Draft, GoesOn, over}
use Rattle.live_plans.specs.Entered.{EntersAt}
use Rattle.live_renames.specs.declared.renaming.Ends.{Ends}
use Rattle.live_renames.specs.Gathered.{IsGrounded}

-- A file with this number, which may have one link more, may get an entry in this place of directory d.
pub record MayEnter (kept : Kept) (number d : ℕ) (place : Place) : Type 0 where
  pub links : ((frozen_view kept).inode number).links < 32767
  pub directory : IsTrue (is_directory_at kept.geometry (frozen_view kept) d)
  pub fits : (view : View) → IsShownBy kept view → IsPlace kept.geometry view d place
  pub room : IsFalse (is_full kept.geometry (frozen_view kept) d)

-- the block of an entry in this place, and the new tables with it, are among these cells
abbrev pub IsPlaceIn : Place → List Cell → Type 0
IsPlaceIn (Slot s block) after = Contains after (Block block)
IsPlaceIn (NewBlock block tables) after = Contains after (Block block) × ((x : ℕ) → Contains tables x → Contains after (Block x))

-- and these are all of them
abbrev pub cells_of : Place → List Cell
cells_of (Slot s block) = Block block ∷ []
cells_of (NewBlock block tables) = Block block ∷ map Block tables

-- the cells that come before the old name goes: those of the place, the grounds of its directory, and no others
pub record AreFirst (geo : Geometry) (view : View) (qs : List (List ℕ)) (place : Place) (after : List Cell) : Type 0 where
  pub place_first : IsPlaceIn place after
  pub grounds : (d : ℕ) → walk geo view root qs ≡ Ok d → IsGrounded geo view d (cells_of place) after

-- Where users see what is kept, they are these: a link more, the new entry, the old slot emptied, and the record as it was.
pub record IsMoved (kept : Kept) (ends : Ends) (qs : List (List ℕ)) (place : Place) (draft : Draft) : Type 0 where
  pub geometry : draft.geometry ≡ kept.geometry
  pub file : draft.file ≡ ends.found.number
  pub with_link : Draft
  pub raises : (view : View) → Shows kept view → (q : List Pending) → over q with_link.updates ≡ raised ends.found.number (view.inode ends.found.number) q
  pub entered : Draft
  pub enters : (view : View) → Shows kept view
      → EntersAt kept.geometry view ends.directory (view.inode ends.directory) ends.found.number (last_part qs) place with_link entered
  pub after : List Cell
  pub first : AreFirst kept.geometry (frozen_view kept) qs place after
  pub leaves : (view : View) → Shows kept view
      → GoesOn entered draft (left ends.found.number (view.inode ends.found.number) ends.found.block (view.bytes ends.found.block) ends.found.slot after)
