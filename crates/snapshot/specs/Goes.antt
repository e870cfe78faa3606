-- What stands beside a volume, and what a volume goes through by its calls.
use Rattle.std.specs.Prelude.{◌≡◌, ℕ, Bool, false, List, [], ◌∷◌, ◌++◌, Err, Ok, Result}
use Rattle.layout.specs.declared.refusal.Refusal.{Refusal}
use Rattle.model.specs.Image.{IsImage}
use Rattle.model.specs.Layout.{Geometry}
use Rattle.model.specs.View.{View}
use Rattle.device.specs.Media.{Held}
use Rattle.ordering.specs.Cuts.{users_view}
use Rattle.machine.specs.Command.{Command, Done, Freeze, Image, Release, Reply}
use Rattle.machine.specs.Snapshot.{settled}
use Rattle.machine.specs.Standing.{begun, ended}
use Rattle.machine.specs.State.{State}
use Rattle.machine.specs.Step.{Run}
use Rattle.plans_data.specs.Carried.{Stands}
use Rattle.queue_model.specs.Files.{Written}
use Rattle.courses.specs.Serves.{IsBeginning, Service}
use Rattle.frozen.specs.Kept.{Kept}
use Rattle.frozen_files.specs.Standing.{KeepsFiles}
use Rattle.metadata.specs.Shown.{Shows}
use Rattle.softdep.specs.Queued.{pending_of}
use Rattle.live_states.specs.Holdings.{AreImagesOf, Beside, opened_by}
use Rattle.live_states.specs.Planned.{safe_after}
use Rattle.live.specs.Alive.{Alive, HasBegun, disk_of, state_of}
use Rattle.live.specs.Durable.{GoesSoundly, Piece, pieces_of}
use Rattle.live.specs.Held.{HeldMore}
use Rattle.snapshot.specs.declared.answer.Answer.{Answer as Given}
use Rattle.snapshot.specs.Asked.{AreReplies, IsReply}

-- These are the whole images of a volume's snapshots: with them the volume stands, in balance, over an image that can be loaded, since some mount, and the blocks of the snapshots' files have their bytes still.
pub record IsBeside {D : Type 0} (image : List (List ℕ)) (live : Alive D) (beside : Beside) : Type 0 where
  pub belongs : AreImagesOf live.holdings.snapshots beside.snapshots
  pub stands : Stands live.kept.geometry (disk_of image live) (pending_of live.queue) (state_of image live beside) (λ f. false)
  pub files : KeepsFiles live.kept.geometry (state_of image live beside)
  pub framed : IsImage live.kept.geometry image
  pub begun : HasBegun image live

-- there is one
pub record HasBeside {D : Type 0} (image : List (List ℕ)) (live : Alive D) : Type 0 where
  pub beside : Beside
  pub is : IsBeside image live beside

-- what the commands of a run write that are carried out, newest first
abbrev pub pieces_in : (geo : Geometry) (old : State) (commands : List Command) (replies : List Reply) (new : State) → Run geo old commands replies new → List Piece
pieces_in geo old [] replies new run = []
pieces_in geo old (c ∷ cs) [] new run = []
pieces_in geo old (c ∷ cs) (Ok answer ∷ rs) new run = pieces_in geo run.0 cs rs new run.2 ++ pieces_of old.opened c
pieces_in geo old (c ∷ cs) (Err r ∷ rs) new run = pieces_in geo run.0 cs rs new run.2

-- what users saw before and behind each command of a run, newest first
abbrev pub views_in : (geo : Geometry) (old : State) (commands : List Command) (replies : List Reply) (new : State) → Run geo old commands replies new → List View
views_in geo old [] replies new run = []
views_in geo old (c ∷ cs) [] new run = []
views_in geo old (c ∷ cs) (r ∷ rs) new run = views_in geo run.0 cs rs new run.2 ++ run.0.view ∷ old.view ∷ []

-- From a volume over an image of its device, with this beside it, these commands got these replies, one after another. It leads to a volume, with something beside it, over another image, and to what the device held since.
-- Users see a run of the machine; and from wherever a volume may begin, whichever files no stop is to lose, what it goes through is a service of these commands, and no loss of power loses more files than a stop does, or shows in a file what users did not write to it, or a size that users did not see.
pub record Goes {D : Type 0} (beside : Beside) (held : Held) (image : List (List ℕ)) (old : Alive D) (commands : List Command) (replies : List Reply)
    (beside' : Beside) (held' : Held) (image' : List (List ℕ)) (new : Alive D) : Type 0 where
  pub geometry : new.kept.geometry ≡ old.kept.geometry
  pub is : IsBeside image' new beside'
  pub run : Run old.kept.geometry (state_of image old beside) commands replies (state_of image' new beside')
  -- what the device held since, newest first
  pub later : List View
  pub since : HeldMore old.kept.geometry held held' later
  pub service : (mount : View) (h : List Written) (cut : List Bool) (safe : ℕ → Bool) → IsBeginning old.kept.geometry mount h cut (disk_of image old) (pending_of old.queue) (state_of image old beside) safe
      → (safe' : ℕ → Bool) × Service old.kept.geometry (disk_of image old) (pending_of old.queue) (state_of image old beside) safe (disk_of image' new) (pending_of new.queue) (state_of image' new beside') safe' commands replies later × GoesSoundly held old held' new safe safe'
      (pieces_in old.kept.geometry (state_of image old beside) commands replies (state_of image' new beside') run) (views_in old.kept.geometry (state_of image old beside) commands replies (state_of image' new beside') run)

-- a volume stays sound on its medium by a command, but for the file of which it took a name, and for what it writes, looking as users see before or behind it
abbrev pub GoesSafely : {D : Type 0} → Held → List (List ℕ) → Alive D → Command → Held → List (List ℕ) → Alive D → Type 0
GoesSafely held image old command held' image' new =
    (safe : ℕ → Bool) → GoesSoundly held old held' new safe (safe_after old.kept.geometry (users_view (disk_of image old) (pending_of old.queue)) command safe) (pieces_of (opened_by old.holdings) command)
    (users_view (disk_of image' new) (pending_of new.queue) ∷ users_view (disk_of image old) (pending_of old.queue) ∷ [])

-- by nothing else does it lose any, or is anything written to one
abbrev pub StaysSafe : {D : Type 0} → Held → Alive D → Held → Alive D → Type 0
StaysSafe held old held' new = (safe : ℕ → Bool) → GoesSoundly held old held' new safe safe [] []

-- A command got this reply, and what stands beside the volume stays, whatever it is.
abbrev pub Replies : {D : Type 0} → Held → List (List ℕ) → Alive D → Command → Reply → Held → List (List ℕ) → Alive D → Type 0
Replies held image old command reply held' image' new = (beside : Beside) → IsBeside image old beside → Goes beside held image old (command ∷ []) (reply ∷ []) beside held' image' new

-- A snapshot began with this number, and this is the metadata of its image, which then stands beside the volume too.
abbrev pub Freezes : {D : Type 0} → Held → List (List ℕ) → Alive D → ℕ → Kept → Held → List (List ℕ) → Alive D → Type 0
Freezes held image old s snapshot held' image' new = (beside : Beside) → IsBeside image old beside
    → let view = settled old.kept.geometry (state_of image old beside) in
    (s ≡ old.holdings.snapshots.freezes) × Shows snapshot view
    × Goes beside held image old (Freeze ∷ []) (Ok (Image s view) ∷ []) (record { snapshots = begun beside.snapshots view }) held' image' new

-- The snapshot of this number ended, and its image stands beside the volume no more.
abbrev pub Releases : {D : Type 0} → Held → List (List ℕ) → Alive D → ℕ → Held → List (List ℕ) → Alive D → Type 0
Releases held image old s held' image' new = (beside : Beside) → IsBeside image old beside
    → Goes beside held image old (Release s ∷ []) (Ok Done ∷ []) (record { snapshots = ended beside.snapshots s }) held' image' new

-- A command got this reply, whatever stands beside the volume then.
abbrev pub Applies : {D : Type 0} → Held → List (List ℕ) → Alive D → Command → Result Given Refusal → Held → List (List ℕ) → Alive D → Type 0
Applies held image old command reply held' image' new = (beside : Beside) → IsBeside image old beside
    → (beside' : Beside) × (response : Reply) × IsReply reply response × Goes beside held image old (command ∷ []) (response ∷ []) beside' held' image' new

-- and so did commands, one after another
abbrev pub Runs : {D : Type 0} → Held → List (List ℕ) → Alive D → List Command → List (Result Given Refusal) → Held → List (List ℕ) → Alive D → Type 0
Runs held image old commands replies held' image' new = (beside : Beside) → IsBeside image old beside
    → (beside' : Beside) × (responses : List Reply) × AreReplies replies responses × Goes beside held image old commands responses beside' held' image' new
