-- How each command that no cause refuses is carried out, and what a volume goes through that carries out commands so.
use Rattle.std.specs.Prelude.{◌≡◌, ℕ, ◌<◌, ◌≤◌, Bool, true, false, List, [], ◌∷◌, ◌++◌, Ok, Err, IsTrue, reverse}
use Rattle.std.specs.List.{Contains}
use Rattle.model.specs.Layout.{Geometry}
use Rattle.model.specs.View.{View}
use Rattle.layout.specs.declared.refusal.Refusal.{Refusal}
use Rattle.ordering.specs.Cuts.{Pending, IsClosed, seen, rest}
use Rattle.ordering.specs.Ghosts.{at_rest}
use Rattle.machine.specs.State.{State}
use Rattle.machine.specs.Command.{Command, Unlink, Open, Read, ListNames, Stat, ReadAttributes, Freeze, SnapRead, Release, Install, Flush, Sync, Answer, Done, Number, Image, Reply}
use Rattle.machine.specs.Paths.{number_at}
use Rattle.machine.specs.Snapshot.{settled, frozen, released}
use Rattle.machine.specs.Causes.{Accepts}
use Rattle.machine.specs.Step.{Effect, Step, Run}
use Rattle.plans_data.specs.Carried.{Stands}
use Rattle.plans_data.specs.Release.{releasing}
use Rattle.plans_data.specs.Lists.{let_go_below}
use Rattle.queue_model.specs.Blocks.{home_of}
use Rattle.queue_model.specs.Course.{IsSafeImage}
use Rattle.queue_model.specs.Files.{Written, updates}
use Rattle.queue_model.specs.Flush.{taken, IsOfBlock}
use Rattle.queue_model.specs.Sync.{Writes}
use Rattle.courses.specs.Leads.{IsMoment}
use Rattle.courses.specs.Life.{Life, IsLived}
use Rattle.courses.specs.Done.{IsDoneBy, LeavesTheRest}

-- a command that changes neither the image nor what is held
abbrev pub is_quiet : Command → Bool
is_quiet (Open p) = true
is_quiet (Read h k) = true
is_quiet (ListNames p) = true
is_quiet (Stat p) = true
is_quiet (ReadAttributes i) = true
is_quiet (SnapRead s i k) = true
is_quiet (Install check) = true
is_quiet _ = false

-- Over a device with this pending, in this state and with these safe files, a command is answered so: the device and what is pending then, the state and the safe files, and what the device held after each write of the command, newest first.
pub data Serves (geo : Geometry) (disk : View) (q : List Pending) (old : State) (safe : ℕ → Bool) : Command → Answer → View → List Pending → State → (ℕ → Bool) → List View → Type 0 where
  -- by updates, which stay pending; a write leaves what stands behind its piece
  ByPlan : (command : Command) (answer : Answer) (file : ℕ) (plan : List Pending) (new : State) (safe' : ℕ → Bool) (done : IsDoneBy geo disk q old safe command answer file plan new safe') → LeavesTheRest done
      → Serves geo disk q old safe command answer disk plan new safe' []
  -- with no change of the image
  Quietly : (command : Command) (answer : Answer) (new : State) → IsTrue (is_quiet command) → Effect geo old command answer new → Serves geo disk q old safe command answer disk q new safe []
  -- by the write of a block with a closed cut of what is pending there, or by nothing, where none may go there yet
  FlushesNone : (a : ℕ) → Serves geo disk q old safe (Flush a) (Number 0) disk q old safe []
  FlushesSome : (a : ℕ) (cut : List Bool) → IsClosed q cut → IsOfBlock (home_of geo) a q cut → 1 ≤ taken cut
      → Serves geo disk q old safe (Flush a) (Number (taken cut)) (seen disk q cut) (rest q cut) old safe (seen disk q cut ∷ [])
  -- by such writes of blocks, until nothing is pending
  SyncsAll : (blocks : List ℕ) (views : List View) (disk' : View) → Writes (home_of geo) disk q blocks views disk' [] → Serves geo disk q old safe Sync Done disk' [] old safe (reverse views)
  -- and then by a snapshot, or by the end of one, which clears the bits of what is let go
  Freezes : (blocks : List ℕ) (views : List View) (disk' : View) → Writes (home_of geo) disk q blocks views disk' []
      → Serves geo disk q old safe Freeze (Image old.snapshots.freezes (settled geo old)) disk' [] (frozen geo old) safe (reverse views)
  Releases : (s : ℕ) (blocks : List ℕ) (views : List View) (disk' : View) (n : ℕ) → Writes (home_of geo) disk q blocks views disk' [] → ((a : ℕ) → IsTrue (old.held a) → a < n)
      → Serves geo disk q old safe (Release s) Done disk' (releasing (let_go_below old s n) []) (released old s) safe (reverse views)

-- Where a volume may begin: it stands, at a good moment since mount.
pub record IsBeginning (geo : Geometry) (mounted : View) (h : List Written) (cut : List Bool) (disk : View) (q : List Pending) (old : State) (safe : ℕ → Bool) : Type 0 where
  pub stands : Stands geo disk q old safe
  pub moment : IsMoment geo mounted h cut (at_rest old.held safe) disk q

-- From a device with this pending, in this state and with these files safe, commands are carried out, or refused without an effect, and blocks are flushed, also before a refusal.
-- It leads to a device, to what is pending, to the state and the safe files then, with the commands and their replies, oldest first, and with what the device held after each write, newest first.
pub data Service (geo : Geometry) (disk0 : View) (q0 : List Pending) (old0 : State) (safe0 : ℕ → Bool) : View → List Pending → State → (ℕ → Bool) → List Command → List Reply → List View → Type 0 where
  Starts : Service geo disk0 q0 old0 safe0 disk0 q0 old0 safe0 [] [] []
  CarriesOut : {disk : View} {q : List Pending} {old : State} {safe : ℕ → Bool} {commands : List Command} {replies : List Reply} {images : List View}
      (command : Command) (answer : Answer) (disk' : View) (q' : List Pending) (new : State) (safe' : ℕ → Bool) (later : List View)
      → Service geo disk0 q0 old0 safe0 disk q old safe commands replies images → Accepts geo old command → Serves geo disk q old safe command answer disk' q' new safe' later
      → Service geo disk0 q0 old0 safe0 disk' q' new safe' (commands ++ command ∷ []) (replies ++ Ok answer ∷ []) (later ++ images)
  Refuses : {disk : View} {q : List Pending} {old : State} {safe : ℕ → Bool} {commands : List Command} {replies : List Reply} {images : List View} (command : Command) (r : Refusal)
      → Service geo disk0 q0 old0 safe0 disk q old safe commands replies images → Step geo old command (Err r) old
      → Service geo disk0 q0 old0 safe0 disk q old safe (commands ++ command ∷ []) (replies ++ Err r ∷ []) images
  Flushed : {disk : View} {q : List Pending} {old : State} {safe : ℕ → Bool} {commands : List Command} {replies : List Reply} {images : List View} (a : ℕ) (cut : List Bool)
      → Service geo disk0 q0 old0 safe0 disk q old safe commands replies images → IsClosed q cut → IsOfBlock (home_of geo) a q cut
      → Service geo disk0 q0 old0 safe0 (seen disk q cut) (rest q cut) old safe commands replies (seen disk q cut ∷ images)

-- the command takes a name of file f; unlinks alone do
abbrev pub TakesNameOf : Geometry → State → Command → ℕ → Type 0
TakesNameOf geo old (Unlink p) f = number_at geo old.view p ≡ f
TakesNameOf geo old _ f = ⊥

-- No unlink that was carried out took a name of this file.
abbrev pub IsSpared : {geo : Geometry} {disk0 : View} {q0 : List Pending} {old0 : State} {safe0 : ℕ → Bool} {disk : View} {q : List Pending} {new : State} {safe : ℕ → Bool} {commands : List Command} {replies : List Reply} {images : List View}
    → ℕ → Service geo disk0 q0 old0 safe0 disk q new safe commands replies images → Type 0
IsSpared f Starts = Unit {0}
IsSpared {geo = geo} f (CarriesOut {old = old} command answer disk' q' new safe' later service accepts serves) = IsSpared f service × (TakesNameOf geo old command f → ⊥)
IsSpared f (Refuses command r service step) = IsSpared f service
IsSpared f (Flushed a cut service closed of_block) = IsSpared f service

-- Users see a run of the machine, the volume stands as at its beginning, and its device goes through a life. Each image that the device held is that of a closed cut of what that life wrote, after what was written before it; it obeys the rules, reaches the files that are safe at the end, and holds in each block of a file what that very file wrote.
pub record IsSafeService (geo : Geometry) (mounted : View) (h : List Written) (cut : List Bool) (disk0 : View) (q0 : List Pending) (old0 : State) (safe0 : ℕ → Bool) (disk : View) (q : List Pending) (new : State) (safe : ℕ → Bool) (commands : List Command) (replies : List Reply) (images : List View) : Type 0 where
  pub run : Run geo old0 commands replies new
  pub stands : Stands geo disk q new safe
  pub life : Life geo disk0 q0 old0.held safe0 disk q new.held safe images
  pub lived : IsLived geo mounted h cut disk0 q0 old0.held safe0 disk q new.held safe images life
  pub stops : (image : View) → Contains images image → (less : List Bool) × (image ≡ seen mounted (updates lived.h') less) × IsSafeImage geo mounted lived.h' less safe
