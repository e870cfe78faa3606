-- What it is that updates carry out a command, and that a command is refused.
use Rattle.std.specs.Prelude.{◌≡◌, ℕ, Bool, List, ◌⊎◌, IsTrue}
use Rattle.std.specs.List.{All}
use Rattle.model.specs.Layout.{Geometry}
use Rattle.model.specs.View.{View}
use Rattle.layout.specs.declared.refusal.Refusal.{Refusal}
use Rattle.layout.specs.declared.refusal.Refusal.TheVariants.{NoMemory}
use Rattle.ordering.specs.Cuts.{Pending, users_view}
use Rattle.machine.specs.Causes.{Accepts, FirstRefusal}
use Rattle.machine.specs.Command.{Answer, Command, Unlink, Write}
use Rattle.machine.specs.Paths.{number_at}
use Rattle.machine.specs.State.{State}
use Rattle.machine.specs.Step.{Effect}
use Rattle.plans_data.specs.Carried.{Stands}
use Rattle.plans_data.specs.Now.{now}
use Rattle.plans_naming.specs.Unlink.{safe_but}
use Rattle.courses.specs.Done.{IsDoneBy, LeavesTheRest}
use Rattle.courses.specs.Serves.{is_quiet}
use Rattle.frozen.specs.Kept.{Kept}
use Rattle.metadata.specs.Shown.{Shows}
use Rattle.live_states.specs.Drafts.{Draft, over}
use Rattle.live_states.specs.Holdings.{Has, Holdings, going_on}

-- What is kept is the metadata of a volume that stands so, with some updates pending.
pub record IsOfVolume (kept : Kept) : Type 0 where
  pub disk : View
  pub pending : List Pending
  pub old : State
  pub safe : ℕ → Bool
  pub stands : Stands kept.geometry disk pending old safe
  pub shows : Shows kept old.view

-- And this is open and held in it.
pub record IsOfVolumeWith (kept : Kept) (holdings : Holdings) : Type 0 where
  pub volume : IsOfVolume kept
  pub has : Has holdings volume.old

-- the files that no stop loses after a command: an unlink gives its file up, and no other command gives up any
abbrev pub safe_after : Geometry → View → Command → (ℕ → Bool) → ℕ → Bool
safe_after geo view (Unlink path) safe = safe_but (number_at geo view path) safe
safe_after geo view _ safe = safe

-- Where users see what is kept, no cause refuses the command; it is carried out by these updates with this answer, whatever is pending, open or held and whichever files are safe, and what is open or held stays so.
pub record IsPlanned (kept : Kept) (command : Command) (answer : Answer) (draft : Draft) : Type 0 where
  pub geometry : draft.geometry ≡ kept.geometry
  pub accepted : (old : State) → Shows kept old.view → Accepts kept.geometry old command
  pub done : (disk : View) (q : List Pending) (old : State) (safe : ℕ → Bool) → Stands kept.geometry disk q old safe → Shows kept old.view
      → IsDoneBy kept.geometry disk q old safe command answer draft.file (over q draft.updates) (now disk (over q draft.updates) old) (safe_after kept.geometry old.view command safe)

-- Where users see what is kept, this is the first cause that refuses the command; or there is no memory.
abbrev pub IsRefused : Kept → Command → Refusal → Type 0
IsRefused kept command r = (r ≡ NoMemory) ⊎ ((old : State) → Shows kept old.view → FirstRefusal kept.geometry old command r)

-- a block that is not kept, and the bytes that users see of it
pub record Seen : Type 0 where
  pub address : ℕ
  pub bytes : List ℕ

abbrev pub AreSeen : List Seen → View → Type 0
AreSeen seen view = All (λ (s : Seen). view.bytes s.address ≡ s.bytes) seen

-- The same where this is open and held, and users see these blocks so; and then this is open and held.
pub record IsPlannedWith (kept : Kept) (holdings : Holdings) (seen : List Seen) (command : Command) (answer : Answer) (draft : Draft) (holdings' : Holdings) : Type 0 where
  pub geometry : draft.geometry ≡ kept.geometry
  pub snapshots : holdings'.snapshots ≡ holdings.snapshots
  pub accepted : (old : State) → Shows kept old.view → Has holdings old → Accepts kept.geometry old command
  pub done : (disk : View) (q : List Pending) (old : State) (safe : ℕ → Bool) → Stands kept.geometry disk q old safe → Shows kept old.view → Has holdings old → AreSeen seen old.view
      → IsDoneBy kept.geometry disk q old safe command answer draft.file (over q draft.updates) (going_on old holdings' (users_view disk (over q draft.updates))) (safe_after kept.geometry old.view command safe)

-- The same, and a write leaves what stands behind its piece.
pub record IsPlannedToTheByte (kept : Kept) (holdings : Holdings) (seen : List Seen) (command : Command) (answer : Answer) (draft : Draft) (holdings' : Holdings) : Type 0 where
  pub planned : IsPlannedWith kept holdings seen command answer draft holdings'
  pub rest : (disk : View) (q : List Pending) (old : State) (safe : ℕ → Bool) (stands : Stands kept.geometry disk q old safe) (shows : Shows kept old.view) (has : Has holdings old) (sees : AreSeen seen old.view)
      → LeavesTheRest (planned.done disk q old safe stands shows has sees)

-- what has to be planned for a user's command
abbrev pub IsPlannedFor : Kept → Holdings → List Seen → Command → Answer → Draft → Holdings → Type 0
IsPlannedFor kept holdings seen (Write h k piece) answer draft holdings' = IsPlannedToTheByte kept holdings seen (Write h k piece) answer draft holdings'
IsPlannedFor kept holdings seen command answer draft holdings' = IsPlannedWith kept holdings seen command answer draft holdings'

-- Where this is kept, open and held, this is the first cause that refuses the command; or there is no memory.
abbrev pub IsFirstCauseWith : Kept → Holdings → Command → Refusal → Type 0
IsFirstCauseWith kept holdings command r = (old : State) → Shows kept old.view → Has holdings old → FirstRefusal kept.geometry old command r

abbrev pub IsRefusedWith : Kept → Holdings → Command → Refusal → Type 0
IsRefusedWith kept holdings command r = (r ≡ NoMemory) ⊎ IsFirstCauseWith kept holdings command r

-- Where this is kept, open and held, and users see these blocks so, no cause refuses a command that leaves the image and what is held alone; this is its answer, and then this is open.
pub record IsQuietlyDone (kept : Kept) (holdings : Holdings) (seen : List Seen) (command : Command) (answer : Answer) (holdings' : Holdings) : Type 0 where
  pub quiet : IsTrue (is_quiet command)
  pub snapshots : holdings'.snapshots ≡ holdings.snapshots
  pub held : holdings'.held ≡ holdings.held
  pub accepted : (old : State) → Shows kept old.view → Has holdings old → Accepts kept.geometry old command
  pub effect : (old : State) → Shows kept old.view → Has holdings old → AreSeen seen old.view → Effect kept.geometry old command answer (going_on old holdings' old.view)
