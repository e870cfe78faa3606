-- A volume at a moment with all that its history is told by, and how calls lead from one to another.
use Rattle.std.specs.Prelude.{ℕ, Bool, List}
use Rattle.model.specs.Layout.{Geometry}
use Rattle.model.specs.View.{View}
use Rattle.device.specs.Media.{Held}
use Rattle.machine.specs.Command.{Command, Reply}
use Rattle.machine.specs.State.{State}
use Rattle.queue_model.specs.Files.{Written}
use Rattle.courses.specs.Serves.{IsBeginning, IsSafeService, Service}
use Rattle.softdep.specs.Queued.{pending_of}
use Rattle.live_states.specs.Holdings.{Beside}
use Rattle.live.specs.Alive.{Alive, disk_of, state_of}
use Rattle.snapshot.specs.Goes.{Goes, IsBeside}

-- the volume, what stands beside it, and what its device had held and holds
pub record Stage (D : Type 0) : Type 0 where
  pub volume : Alive D
  pub beside : Beside
  pub held : Held
  pub image : List (List ℕ)

abbrev pub geometry_at : {D : Type 0} → Stage D → Geometry
geometry_at s = s.volume.kept.geometry

-- the machine's state
abbrev pub state_at : {D : Type 0} → Stage D → State
state_at s = state_of s.image s.volume s.beside

-- what stands beside the volume are the whole images of its snapshots, and the volume stands
abbrev pub StandsAt : {D : Type 0} → Stage D → Type 0
StandsAt s = IsBeside s.image s.volume s.beside

-- commands with these replies led from a stage to another one
abbrev pub LeadsTo : {D : Type 0} → Stage D → List Command → List Reply → Stage D → Type 0
LeadsTo s commands replies t = Goes s.beside s.held s.image s.volume commands replies t.beside t.held t.image t.volume

-- since this mount these files were written, and this cut of them is on the device; and no stop is to lose these files
abbrev pub BeginsAt : {D : Type 0} → Stage D → View → List Written → List Bool → (ℕ → Bool) → Type 0
BeginsAt s mount h cut safe = IsBeginning (geometry_at s) mount h cut (disk_of s.image s.volume) (pending_of s.volume.queue) (state_at s) safe

-- that is a service of the commands, in which the device held these images
abbrev pub ServesTo : {D : Type 0} → Stage D → (ℕ → Bool) → List Command → List Reply → Stage D → (ℕ → Bool) → List View → Type 0
ServesTo s safe commands replies t safe' later =
    Service (geometry_at s) (disk_of s.image s.volume) (pending_of s.volume.queue) (state_at s) safe (disk_of t.image t.volume) (pending_of t.volume.queue) (state_at t) safe' commands replies later

-- each of which is safe
abbrev pub IsSafeTo : {D : Type 0} → Stage D → View → List Written → List Bool → (ℕ → Bool) → List Command → List Reply → Stage D → (ℕ → Bool) → List View → Type 0
IsSafeTo s mount h cut safe commands replies t safe' later =
    IsSafeService (geometry_at s) mount h cut (disk_of s.image s.volume) (pending_of s.volume.queue) (state_at s) safe (disk_of t.image t.volume) (pending_of t.volume.queue) (state_at t) safe' commands replies later
