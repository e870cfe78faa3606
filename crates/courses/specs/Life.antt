-- What a volume goes through: plans of commands and writes to the device, in any order.
use Rattle.std.specs.Prelude.{◌≡◌, ℕ, Bool, List, [], ◌∷◌, ◌++◌, length}
use Rattle.model.specs.Layout.{Geometry}
use Rattle.model.specs.View.{View}
use Rattle.ordering.specs.Cuts.{Pending, IsClosed, seen, rest}
use Rattle.ordering.specs.Ghosts.{at_rest}
use Rattle.machine.specs.State.{State}
use Rattle.plans_data.specs.Now.{now}
use Rattle.plans_data.specs.Release.{MayRelease, releasing}
use Rattle.queue_model.specs.Files.{Written}
use Rattle.queue_model.specs.Course.{Course, AreSafeImages}
use Rattle.courses.specs.Leads.{IsMoment, Named}
use Rattle.courses.specs.Plans.{IsPlan, Unlinks, UnlinksLast}

-- From a device with this pending, these blocks held and these files safe: the device, what is pending, what is held and which files are safe then, and what the device held after each write on the way, newest first.
pub data Life (geo : Geometry) (disk0 : View) (q0 : List Pending) (held0 safe0 : ℕ → Bool) : View → List Pending → (ℕ → Bool) → (ℕ → Bool) → List View → Type 0 where
  Begins : Life geo disk0 q0 held0 safe0 disk0 q0 held0 safe0 []
  -- a plan is carried out
  Carries : {disk : View} {q : List Pending} {held safe : ℕ → Bool} {images : List View} (old : State) (file : ℕ) (p : List Pending) (held' safe' : ℕ → Bool) → Life geo disk0 q0 held0 safe0 disk q held safe images
      → old.held ≡ held → IsPlan geo disk q old safe file p held' safe' → Life geo disk0 q0 held0 safe0 disk p held' safe' images
  -- a closed cut of what is pending is written
  Puts : {disk : View} {q : List Pending} {held safe : ℕ → Bool} {images : List View} (cut : List Bool) → Life geo disk0 q0 held0 safe0 disk q held safe images
      → IsClosed q cut → Life geo disk0 q0 held0 safe0 (seen disk q cut) (rest q cut) held safe (seen disk q cut ∷ images)
  -- with nothing pending a snapshot ends, and what no other one has marked is let go
  Releases : {disk : View} {held safe : ℕ → Bool} {images : List View} (old : State) (held' : ℕ → Bool) (blocks : List ℕ) → Life geo disk0 q0 held0 safe0 disk [] held safe images
      → old.held ≡ held → MayRelease geo (now disk [] old) held' blocks → Life geo disk0 q0 held0 safe0 disk (releasing blocks []) held' safe images

-- What was written then: the updates of each plan, in the name of the plan's file, after what was written before it; those at a snapshot's end name 0.
abbrev pub Wrote : {geo : Geometry} {disk0 : View} {q0 : List Pending} {held0 safe0 : ℕ → Bool} {disk : View} {q : List Pending} {held safe : ℕ → Bool} {images : List View} → View → List Written → List Written → Life geo disk0 q0 held0 safe0 disk q held safe images → Type 0
Wrote mounted h h' Begins = h' ≡ h
Wrote {geo = geo} mounted h h' (Carries {q = q} old file p held' safe' life e plan) = (before : List Written) × Wrote mounted h before life × Named geo mounted file before q h' p
Wrote mounted h h' (Puts cut life closed) = Wrote mounted h h' life
Wrote {geo = geo} mounted h h' (Releases old held' blocks life e may) = (before : List Written) × Wrote mounted h before life × Named geo mounted 0 before [] h' (releasing blocks [])

-- It is a course to a good moment at rest, and each image on the way obeys the rules, reaches the files that are safe at its end, and holds in each block of a file what that very file wrote.
pub record IsLived (geo : Geometry) (mounted : View) (h : List Written) (cut : List Bool) (disk0 : View) (q0 : List Pending) (held0 safe0 : ℕ → Bool) (disk : View) (q : List Pending) (held safe : ℕ → Bool) (images : List View) (life : Life geo disk0 q0 held0 safe0 disk q held safe images) : Type 0 where
  pub h' : List Written
  pub wrote : Wrote mounted h h' life
  pub cut' : List Bool
  pub course : Course geo mounted h cut (at_rest held0 safe0) h' cut' images (at_rest held safe)
  pub moment : IsMoment geo mounted h' cut' (at_rest held safe) disk q
  pub images_safe : AreSafeImages geo mounted h' cut' safe images

-- The plan takes no name of this file.
abbrev pub SparesIn : {geo : Geometry} {disk : View} {q : List Pending} {old : State} {safe : ℕ → Bool} {file : ℕ} {p : List Pending} {held' safe' : ℕ → Bool} → ℕ → IsPlan geo disk q old safe file p held' safe' → Type 0
SparesIn f (Unlinks i d s block name can) = f ≡ i → ⊥
SparesIn f (UnlinksLast i d s block name blocks can free one) = f ≡ i → ⊥
SparesIn f _ = Unit {0}

-- No plan on the way takes a name of this file.
abbrev pub Spares : {geo : Geometry} {disk0 : View} {q0 : List Pending} {held0 safe0 : ℕ → Bool} {disk : View} {q : List Pending} {held safe : ℕ → Bool} {images : List View} → ℕ → Life geo disk0 q0 held0 safe0 disk q held safe images → Type 0
Spares f Begins = Unit {0}
Spares f (Carries old file p held' safe' life e plan) = Spares f life × SparesIn f plan
Spares f (Puts cut life closed) = Spares f life
Spares f (Releases old held' blocks life e may) = Spares f life

-- It goes on to this device and this pending by so many writes.
pub record IsLater (geo : Geometry) (disk0 : View) (q0 : List Pending) (held0 safe0 : ℕ → Bool) (disk : View) (q : List Pending) (held safe : ℕ → Bool) (images : List View) (writes : ℕ) : Type 0 where
  pub later : List View
  pub life : Life geo disk0 q0 held0 safe0 disk q held safe (later ++ images)
  pub count : length later ≡ writes
