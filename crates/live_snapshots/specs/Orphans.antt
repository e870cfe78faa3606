-- Open inodes without links, and updates that free inodes.
use Rattle.std.specs.Prelude.{◌≡◌, ℕ, Bool, false, not, ◌&&◌, ◌||◌, ◌==◌, List, [], ◌∷◌, ◌++◌, Option, if◌then◌else◌}
use Rattle.std.specs.Bool.{then_some}
use Rattle.std.specs.List.{All}
use Rattle.std.specs.Option.{option_and_then, option_map_or}
use Rattle.model.specs.Layout.{Geometry}
use Rattle.model.specs.View.{View, free_inode}
use Rattle.model.specs.Cells.{Update, updated_all}
use Rattle.model.specs.Uses.{claim_at, is_sound_at}
use Rattle.machine.specs.Below.{any_below}
use Rattle.machine.specs.Cells.{claims}
use Rattle.machine.specs.Snapshot.{without}
use Rattle.ordering.specs.Cuts.{cell_of}
use Rattle.updates.specs.declared.change.Update as program
use Rattle.updates.specs.Places.{FitsVolume, IsCell, IsUpdate}
use Rattle.frozen.specs.Kept.{Kept, frozen_view}
use Rattle.metadata.specs.Shown.{Shows}
use Rattle.metadata.specs.Staged.{changes}
use Rattle.live_states.specs.Holdings.{Holdings, is_open_by}
use Rattle.live_holdings.specs.Handles.{handle_at}

-- a sound inode without links
abbrev pub is_bare : Kept → ℕ → Bool
is_bare kept i = is_sound_at kept.geometry (frozen_view kept) i && ((frozen_view kept).inode i).links == 0

-- one that some handle is open on
abbrev pub is_orphan_of : Kept → Holdings → ℕ → Bool
is_orphan_of kept holdings i = is_bare kept i && is_open_by holdings i

-- a handle below h is open on inode i
abbrev pub is_open_below : Holdings → ℕ → ℕ → Bool
is_open_below holdings h i = any_below h (λ k. option_map_or (λ j. j == i) (handle_at holdings k) false)

-- the one that handle h is open on, and none before
abbrev pub orphan_by : Kept → Holdings → ℕ → Option ℕ
orphan_by kept holdings h = option_and_then (λ i. then_some (is_bare kept i && not (is_open_below holdings h i)) i) (handle_at holdings h)

-- some number below this one is such an inode's, and that inode claims block a
abbrev pub is_of_orphan_below : Kept → Holdings → ℕ → ℕ → Bool
is_of_orphan_below kept holdings n a = any_below n (λ i. is_orphan_of kept holdings i && claims kept.geometry (frozen_view kept) i a)

-- Where the first one shows what users see, the second one shows it without these inodes.
abbrev pub LacksOrphans : Kept → Holdings → Kept → Type 0
LacksOrphans kept holdings left = (users : View) → Shows kept users → Shows left (without kept.geometry users (is_orphan_of kept holdings))

-- inode n claims block a at position k, and at some position below this one
abbrev pub is_claimed_at : Geometry → View → ℕ → ℕ → ℕ → Bool
is_claimed_at geo view n k a = option_map_or (λ b. b == a) (claim_at geo view n k) false

abbrev pub is_claimed_below : Geometry → View → ℕ → ℕ → ℕ → Bool
is_claimed_below geo view n end a = any_below end (λ k. is_claimed_at geo view n k a)

-- There is one more update, which makes this change, after nothing.
pub record Adds (change : Update) (old new : List program.Update) : Type 0 where
  pub list : changes new ≡ changes old ++ change ∷ []
  pub each : (geo : Geometry) → IsCell geo (cell_of change) → FitsVolume geo change → All (IsUpdate geo) old → All (IsUpdate geo) new

-- These updates free these numbers, each with its record, and these blocks, and leave all else as it is.
pub record Frees (geo : Geometry) (numbers blocks : ℕ → Bool) (us : List program.Update) : Type 0 where
  pub cells : All (IsUpdate geo) us
  pub inode : (view : View) (i : ℕ) → (updated_all view (changes us)).inode i ≡ (if numbers i then free_inode else view.inode i)
  pub number_marked : (view : View) (i : ℕ) → (updated_all view (changes us)).number_marked i ≡ (view.number_marked i && not (numbers i))
  pub block_marked : (view : View) (a : ℕ) → (updated_all view (changes us)).block_marked a ≡ (view.block_marked a && not (blocks a))
  pub bytes : (view : View) → (updated_all view (changes us)).bytes ≡ view.bytes

-- The new updates free what the old ones do, and these numbers and blocks too.
abbrev pub FreesToo : Geometry → (ℕ → Bool) → (ℕ → Bool) → List program.Update → List program.Update → Type 0
FreesToo geo numbers blocks old new = (ns bs : ℕ → Bool) → Frees geo ns bs old → Frees geo (λ i. ns i || numbers i) (λ a. bs a || blocks a) new
