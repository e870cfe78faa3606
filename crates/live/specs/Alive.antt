-- The value of a mounted volume, what its users see, and how commands are answered.
use Rattle.std.specs.Prelude.{◌≡◌, ◌≤◌, ℕ, Bool, false, List, Option, Some, None, length, Ok, Err}
use Rattle.model.specs.Image.{IsImage, image_view}
use Rattle.model.specs.Layout.{Geometry, block_count}
use Rattle.model.specs.View.{View}
use Rattle.layout.specs.declared.refusal.Refusal.{Refusal}
use Rattle.ordering.specs.Cuts.{users_view}
use Rattle.ordering.specs.Ghosts.{at_rest}
use Rattle.machine.specs.Causes.{FirstRefusal}
use Rattle.machine.specs.Command.{Answer, Command}
use Rattle.machine.specs.Standing.{AreNumbered, Snapshots, image_at}
use Rattle.machine.specs.State.{State}
use Rattle.machine.specs.Step.{Step}
use Rattle.plans_data.specs.Carried.{Stands}
use Rattle.queue_model.specs.Files.{Written}
use Rattle.courses.specs.Leads.{IsMoment}
use Rattle.courses.specs.Serves.{Serves}
use Rattle.frozen.specs.Kept.{Kept, KeepsMetadata}
use Rattle.metadata.specs.Shown.{Shows}
use Rattle.softdep.specs.Queued.{Queued, pending_of}
use Rattle.live_states.specs.Holdings.{Beside, Holdings, AreImagesOf, held_by}
use Rattle.live_states.specs.Planned.{safe_after}
use Rattle.live_states.specs.Snapshots.{AreRepairsOf}
use Rattle.live_states.specs.Volume.{IsAlive, state_over}

-- the device, the updates that were issued, the metadata in memory, and what is open and held
pub record Alive (D : Type 0) : Type 0 where
  pub device : D
  pub queue : Queued
  pub kept : Kept
  pub holdings : Holdings

-- a snapshot that is kept, if it is, is all metadata of an image of this geometry
abbrev pub IsSnapshotOf : Geometry → Option Kept → Type 0
IsSnapshotOf geo None = Unit {0}
IsSnapshotOf geo (Some snapshot) = (snapshot.geometry ≡ geo) × KeepsMetadata snapshot

-- So is each that stands, and their numbers are those of freezes.
pub record AreSnapshotsOf (geo : Geometry) (snapshots : Snapshots Kept) : Type 0 where
  pub images : (s : ℕ) (snapshot : Kept) → image_at snapshots.standing s ≡ Some snapshot → (snapshot.geometry ≡ geo) × KeepsMetadata snapshot
  pub numbered : AreNumbered snapshots

-- where it is honest, the device holds an image of the volume, which can be loaded, and the metadata in memory is what users see over it where it is honest; each block can be held, and what is to be repaired and the snapshots are of the volume
pub record IsLive (honest : Type 0) (image : List (List ℕ)) (queue : Queued) (kept : Kept) (holdings : Holdings) : Type 0 where
  pub geometry : queue.geometry ≡ kept.geometry
  pub alive : IsAlive honest image (pending_of queue) kept holdings
  pub marks : block_count kept.geometry ≤ length holdings.held
  pub repairs : AreRepairsOf kept.geometry holdings.repairs
  pub snapshots : AreSnapshotsOf kept.geometry holdings.snapshots
  pub framed : honest → IsImage kept.geometry image

-- what an image holds that the device of a volume has, and what its users see over it, whatever stands beside the volume
abbrev pub disk_of : {D : Type 0} → List (List ℕ) → Alive D → View
disk_of image live = image_view live.kept.geometry image

abbrev pub state_of : {D : Type 0} → List (List ℕ) → Alive D → Beside → State
state_of image live beside = state_over (disk_of image live) (pending_of live.queue) live.holdings beside

-- Over images old and new of its device a volume answered a command so, where it stands with this beside it: by a step of the machine, and, whichever files no stop is to lose, by the updates of its plan, or by flushes that left these images on the device.
pub record AnswersBeside {D : Type 0} (beside : Beside) (image : List (List ℕ)) (old : Alive D) (command : Command) (answer : Answer) (image' : List (List ℕ)) (new : Alive D) (later : List View) : Type 0 where
  pub geometry : new.kept.geometry ≡ old.kept.geometry
  pub snapshots : new.holdings.snapshots ≡ old.holdings.snapshots
  pub step : Stands old.kept.geometry (disk_of image old) (pending_of old.queue) (state_of image old beside) (λ f. false)
      → Step old.kept.geometry (state_of image old beside) command (Ok answer) (state_of image' new beside)
  pub serves : (safe : ℕ → Bool) → Stands old.kept.geometry (disk_of image old) (pending_of old.queue) (state_of image old beside) safe
      → Serves old.kept.geometry (disk_of image old) (pending_of old.queue) (state_of image old beside) safe command answer
      (disk_of image' new) (pending_of new.queue) (state_of image' new beside) (safe_after old.kept.geometry (users_view (disk_of image old) (pending_of old.queue)) command safe) later

-- And so whatever stands beside it that belongs to it.
abbrev pub Answers : {D : Type 0} → List (List ℕ) → Alive D → Command → Answer → List (List ℕ) → Alive D → List View → Type 0
Answers image old command answer image' new later = (beside : Beside) → AreImagesOf old.holdings.snapshots beside.snapshots → AnswersBeside beside image old command answer image' new later

-- It may refuse a command so, and stays as it is.
abbrev pub MayRefuse : {D : Type 0} → List (List ℕ) → Alive D → Command → Refusal → Type 0
MayRefuse image live command r = (beside : Beside) → AreImagesOf live.holdings.snapshots beside.snapshots → Step live.kept.geometry (state_of image live beside) command (Err r) (state_of image live beside)

-- What was written since some mount led to what is on the device and to what is pending, at a good moment.
pub record HasBegun {D : Type 0} (image : List (List ℕ)) (live : Alive D) : Type 0 where
  pub mount : View
  pub history : List Written
  pub cut : List Bool
  pub moment : IsMoment live.kept.geometry mount history cut (at_rest (held_by live.holdings) (λ f. false)) (disk_of image live) (pending_of live.queue)

-- The volume stands, with something beside it that belongs to it, over an image that can be loaded, and was mounted once.
pub record StandsSo {D : Type 0} (image : List (List ℕ)) (live : Alive D) : Type 0 where
  pub beside : Beside
  pub belongs : AreImagesOf live.holdings.snapshots beside.snapshots
  pub stands : Stands live.kept.geometry (disk_of image live) (pending_of live.queue) (state_of image live beside) (λ f. false)
  pub framed : IsImage live.kept.geometry image
  pub begun : HasBegun image live

-- Whatever users see where this is kept, this is the first cause that refuses the command.
abbrev pub IsFirstCause : Kept → Command → Refusal → Type 0
IsFirstCause kept command r = (old : State) → Shows kept old.view → FirstRefusal kept.geometry old command r
