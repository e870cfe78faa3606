-- A file gets a size that is no larger.
use Rattle.std.specs.Prelude.{◌≡◌, ℕ, ◌≤◌, List, [], ◌∷◌, IsTrue}
use Rattle.model.specs.Layout.{Geometry}
use Rattle.model.specs.View.{Inode}
use Rattle.model.specs.Cells.{SetInode}
use Rattle.model.specs.Uses.{is_sound_at}
use Rattle.machine.specs.State.{State}
use Rattle.ordering.specs.Cuts.{Pending}
use Rattle.plans_data.specs.Append.{sized}
use Rattle.plans_data.specs.Freeing.{AreGivenUp, HeldAreUnclaimed, cleared}

-- the record, also where its size stays; after it the bits of these blocks are cleared
abbrev pub truncation : ℕ → Inode → ℕ → List ℕ → List Pending → List Pending
truncation n inode size blocks q = cleared n blocks (record { change = SetInode n (sized inode size); after = [] } ∷ q)

pub record MayTruncate (geo : Geometry) (old : State) (n size : ℕ) (blocks : List ℕ) : Type 0 where
  pub sound : IsTrue (is_sound_at geo old.view n)
  pub file : (old.view.inode n).mode ≡ 1
  pub no_more : size ≤ (old.view.inode n).size
  pub given_up : AreGivenUp geo old n (sized (old.view.inode n) size) blocks
  pub held : HeldAreUnclaimed geo old
