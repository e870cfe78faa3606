-- A position of an inode gets a pointer to a new block.
use Rattle.std.specs.Prelude.{◌≡◌, ℕ, List, [], ◌∷◌, Some, IsTrue}
use Rattle.std.specs.List.{All}
use Rattle.model.specs.Layout.{Geometry, is_data_address, is_number}
use Rattle.model.specs.View.{Fits, Inode}
use Rattle.model.specs.Shape.{is_table, table_of}
use Rattle.model.specs.Uses.{IsClaim, has_position}
use Rattle.frozen.specs.Kept.{Kept, frozen_view}
use Rattle.ordering.specs.Cuts.{Cell}
use Rattle.updates.specs.Places.{IsCell}
use Rattle.plans_data.specs.Append.{Holder, known, linked, pointed}
use Rattle.live_states.specs.Drafts.{Draft, GoesOn}

-- inode n claims each table that it has
abbrev pub HasPointers : Kept → ℕ → Type 0
HasPointers kept n =
    (m : ℕ) → IsTrue (is_table kept.geometry m) → IsTrue (has_position kept.geometry ((frozen_view kept).inode n) m) → (x : ℕ) × IsClaim kept.geometry (frozen_view kept) n m x

-- Inode n has this record, and claims the table at position m.
pub record HasTable (kept : Kept) (inode : Inode) (m n : ℕ) : Type 0 where
  pub number : IsTrue (is_number kept.geometry n)
  pub same : (frozen_view kept).inode n ≡ inode
  pub claimed : (x : ℕ) × IsClaim kept.geometry (frozen_view kept) n m x

-- The pointer of position k of inode n can be put into the record or into a table that n claims; with new tables that is so of the pointer to the last of them.
abbrev pub CanLink : Kept → ℕ → ℕ → List ℕ → Type 0
CanLink kept n k [] = (m : ℕ) → table_of kept.geometry k ≡ Some m → (x : ℕ) × IsClaim kept.geometry (frozen_view kept) n m x
CanLink kept n k (x ∷ xs) = (m : ℕ) × (table_of kept.geometry k ≡ Some m) × IsTrue (is_data_address kept.geometry x) × CanLink kept n m xs

-- Position k of inode n, with this record before, points to block b, and the pointer is kept there, once the record is the one that is given, which comes after these cells.
pub record IsLinked (geo : Geometry) (n : ℕ) (inode : Inode) (k b : ℕ) (holder : Holder) (old new : Draft) (given : Inode) (after : List Cell) : Type 0 where
  pub goes_on : GoesOn old new (linked geo n k b holder)
  pub record_points : given ≡ pointed geo inode k b holder
  -- which fits the version of the layout as the one before did
  pub record_fits : Fits geo.version inode → Fits geo.version given
  pub record_after : after ≡ known b holder
  pub cells : All (IsCell geo) after
