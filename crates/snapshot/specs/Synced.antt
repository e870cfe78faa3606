-- What a sync has seen, and what calls leave of it.
use Rattle.std.specs.Prelude.{◌≡◌, ℕ, Bool, List, [], ◌++◌, All, IsTrue, map}
use Rattle.model.specs.Reach.{IsReachable}
use Rattle.model.specs.View.{View}
use Rattle.device.specs.Media.{Medium, image_of}
use Rattle.machine.specs.Command.{Command, Reply}
use Rattle.machine.specs.Step.{Run}
use Rattle.queue_model.specs.Files.{Written}
use Rattle.courses.specs.Serves.{IsSpared}
use Rattle.softdep.specs.Queued.{unsynced_of}
use Rattle.live.specs.Alive.{disk_of}
use Rattle.live.specs.Durable.{WritesLooksOf, HeldSafely, LeavesOwn, LeavesShown, Put, PutAlong}
use Rattle.snapshot.specs.Goes.{pieces_in, views_in}
use Rattle.snapshot.specs.Stages.{ServesTo, Stage, geometry_at, state_at}

-- all is durable, on a device that answers what its medium has
abbrev pub IsSynced : {D : Type 0} → Stage D → Type 0
IsSynced t = (unsynced_of t.volume.queue ≡ []) × (t.image ≡ image_of t.held.now)

-- a file that can be reached
abbrev pub HasFile : {D : Type 0} → Stage D → ℕ → Type 0
HasFile t f = IsReachable (geometry_at t) (disk_of t.image t.volume) f × (((disk_of t.image t.volume).inode f).mode ≡ 1)

-- Of these files, whatever a loss of power leaves of each medium that the device had since has those of which no unlink took a name.
pub record KeepsFiles {D : Type 0} (t : Stage D) (files : ℕ → Bool) (commands : List Command) (replies : List Reply) (u : Stage D) : Type 0 where
  pub later : List View
  pub left : ℕ → Bool
  pub service : ServesTo t files commands replies u left later
  pub spared : (f : ℕ) → IsTrue (files f) → IsSpared f service → IsTrue (left f)
  pub held : HeldSafely (geometry_at t) t.held u.held left
  -- Whatever a loss of power leaves at the sync is what users saw there, and what it leaves of each medium since is what a closed cut of what was written since shows over that.
  pub now : LeavesShown (geometry_at t) (disk_of t.image t.volume) [] files t.held.now
  pub written : List Written
  pub more : List Medium
  pub media : u.held.media ≡ t.held.media ++ more
  pub shown : All (LeavesShown (geometry_at t) (disk_of t.image t.volume) written left) more
  -- Of these commands each that wrote put its piece into the file that its handle was open on, which is the file that this number was then; and each block of a file has the file's own bytes: those of then, those of such a piece, or zeroes.
  pub run : Run (geometry_at t) (state_at t) commands replies (state_at u)
  pub puts : List Put
  pub pieces : map (λ (put : Put). put.piece) puts ≡ pieces_in (geometry_at t) (state_at t) commands replies (state_at u) run
  pub along : PutAlong (disk_of t.image t.volume) [] written puts
  pub own_now : LeavesOwn (geometry_at t) (disk_of t.image t.volume) [] [] t.held.now
  pub own : All (LeavesOwn (geometry_at t) (disk_of t.image t.volume) written puts) more
  -- each record that was written since looks as users saw it before or behind one of these commands
  pub looking : All (WritesLooksOf (views_in (geometry_at t) (state_at t) commands replies (state_at u) run)) written
