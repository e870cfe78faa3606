-- The updates by which a file is shortened, or goes with its last handle.
use Rattle.std.specs.Prelude.{◌≡◌, ◌≢◌, ℕ, ◌⊎◌, List, [], IsTrue, IsFalse}
use Rattle.model.specs.Layout.{Geometry}
use Rattle.model.specs.Uses.{blocks_of}
use Rattle.model.specs.View.{View}
use Rattle.plans_data.specs.Freeing.{freeing}
use Rattle.plans_data.specs.Truncate.{truncation}
use Rattle.live_holdings.specs.Handles.{closed}
use Rattle.live_states.specs.Drafts.{Draft, GoesOn}
use Rattle.live_states.specs.Holdings.{Holdings, is_open_by}
use Rattle.live_removals.specs.Blocks.{freed, held_back}
use Rattle.live_removals.specs.Removed.{no_updates}

-- File n gets this size; the blocks behind it go.
pub record Shortens (geo : Geometry) (view : View) (holdings : Holdings) (n size : ℕ) (draft : Draft) (holds : List ℕ) : Type 0 where
  pub updates : GoesOn (no_updates geo n) draft (truncation n (view.inode n) size (freed geo view holdings n (blocks_of size)))
  pub held : holds ≡ held_back geo view holdings n (blocks_of size)

-- A handle of file n is closed: the file has links or is open by another one, and nothing is updated; or it goes with its blocks.
pub data LetsGo (geo : Geometry) (view : View) (holdings : Holdings) (handle n : ℕ) (draft : Draft) (holds : List ℕ) : Type 0 where
  Stays : ((view.inode n).links ≢ 0) ⊎ IsTrue (is_open_by (closed holdings handle) n) → draft ≡ no_updates geo n → holds ≡ [] → LetsGo geo view holdings handle n draft holds
  Goes : (view.inode n).links ≡ 0 → IsFalse (is_open_by (closed holdings handle) n) → GoesOn (no_updates geo n) draft (freeing n (freed geo view holdings n 0) [])
      → holds ≡ held_back geo view holdings n 0 → LetsGo geo view holdings handle n draft holds
