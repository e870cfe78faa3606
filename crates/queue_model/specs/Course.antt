-- What a volume does from one moment to another, and what it held on the device on the way.
use Rattle.std.specs.Prelude.{◌≡◌, ℕ, Bool, false, List, [], ◌∷◌, ◌++◌, IsTrue, length}
use Rattle.model.specs.Layout.{Geometry}
use Rattle.model.specs.View.{View}
use Rattle.model.specs.Reach.{IsReachable}
use Rattle.model.specs.Rules.{ObeysRules}
use Rattle.ordering.specs.Cuts.{Pending, IsClosed, seen, rest, joined}
use Rattle.ordering.specs.Ghosts.{Ghost, at_rest}
use Rattle.ordering.specs.Agrees.{AllAgree}
use Rattle.ordering.specs.Histories.{Step}
use Rattle.queue_model.specs.History.{Holds, History, device_after, pending_after}
use Rattle.queue_model.specs.Files.{Written, updates, NamesFiles, IsFileBlock, AllOwn, HoldsOwn}

-- Since mount this was written, and this cut of it is on the device: what the ordering of updates and the contents of files ask for holds.
pub record IsGood (geo : Geometry) (mounted : View) (h : List Written) (cut : List Bool) (ghost : Ghost) : Type 0 where
  pub closed : IsClosed (updates h) cut
  pub agree : AllAgree geo (seen mounted (updates h) cut) (rest (updates h) cut) ghost
  pub own : AllOwn geo mounted h cut

-- From there a volume adds an update of some kind that names its file, puts a closed cut of what is pending onto the device, or lets go of held blocks with nothing pending.
-- It leads to what was written then, to the cut that is on the device then, and to the images that the device held after each write, newest first.
pub data Course (geo : Geometry) (mounted : View) (h : List Written) (cut : List Bool) (ghost : Ghost) : List Written → List Bool → List View → Ghost → Type 0 where
  Rests : Course geo mounted h cut ghost h cut [] ghost
  Adds : {h' : List Written} {cut' : List Bool} {images : List View} {ghost' : Ghost} (w : Written) (next : Ghost) → Course geo mounted h cut ghost h' cut' images ghost'
      → Step geo (seen mounted (updates h') cut') (rest (updates h') cut') ghost' w.update next → NamesFiles geo mounted h' w
      → Course geo mounted h cut ghost (w ∷ h') (false ∷ cut') images next
  Puts : {h' : List Written} {cut' : List Bool} {images : List View} {ghost' : Ghost} (next : List Bool) → Course geo mounted h cut ghost h' cut' images ghost'
      → IsClosed (rest (updates h') cut') next
      → Course geo mounted h cut ghost h' (joined (updates h') cut' next) (seen mounted (updates h') (joined (updates h') cut' next) ∷ images) ghost'
  Settles : {h' : List Written} {cut' : List Bool} {images : List View} {ghost' : Ghost} (held : ℕ → Bool) → Course geo mounted h cut ghost h' cut' images ghost'
      → rest (updates h') cut' ≡ [] → Course geo mounted h cut ghost h' cut' images (at_rest held ghost'.safe)

-- The image of a closed cut obeys the rules, reaches the safe files, and holds in each block of a file what that file wrote.
pub record IsSafeImage (geo : Geometry) (mounted : View) (h : List Written) (cut : List Bool) (safe : ℕ → Bool) : Type 0 where
  pub closed : IsClosed (updates h) cut
  pub rules : ObeysRules geo (seen mounted (updates h) cut)
  pub files : (f : ℕ) → IsTrue (safe f) → IsReachable geo (seen mounted (updates h) cut) f
  pub own : (n k b : ℕ) → IsFileBlock geo (seen mounted (updates h) cut) n k b → HoldsOwn geo mounted h cut n k b

-- each image is such a one, each cut holds those of the images before it, and the last one holds them all
abbrev pub AreSafeImages : Geometry → View → List Written → List Bool → (ℕ → Bool) → List View → Type 0
AreSafeImages geo mounted h cut safe [] = Unit {0}
AreSafeImages geo mounted h cut safe (image ∷ images) =
    (less : List Bool) × (image ≡ seen mounted (updates h) less) × Holds cut less × IsSafeImage geo mounted h less safe × AreSafeImages geo mounted h less safe images

-- What was written since the beginning of a course, by itself: a history over the device then and what was pending then, with the same images.
pub record IsByItself (mounted : View) (h : List Written) (cut : List Bool) (h' : List Written) (cut' : List Bool) (images : List View) : Type 0 where
  pub added : List Written
  pub all : h' ≡ added ++ h
  pub taken : List Bool
  pub history : History (seen mounted (updates h) cut) (rest (updates h) cut) (updates added) taken images
  pub device : device_after (seen mounted (updates h) cut) (rest (updates h) cut) (updates added) taken ≡ seen mounted (updates h') cut'
  pub pending : pending_after (rest (updates h) cut) (updates added) taken ≡ rest (updates h') cut'

-- A course of so many writes, and of nothing else, leads to this device with this pending.
pub record IsPut (geo : Geometry) (mounted : View) (h : List Written) (cut : List Bool) (ghost : Ghost) (disk : View) (q : List Pending) (writes : ℕ) : Type 0 where
  pub cut' : List Bool
  pub images : List View
  pub course : Course geo mounted h cut ghost h cut' images ghost
  pub count : length images ≡ writes
  pub device : seen mounted (updates h) cut' ≡ disk
  pub pending : rest (updates h) cut' ≡ q
