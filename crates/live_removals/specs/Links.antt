-- What becomes of an inode that loses links.
use Rattle.std.specs.Prelude.{◌≡◌, ℕ, ◌<◌, ◌≤◌, List, [], ◌∷◌}
use Rattle.model.specs.Layout.{Geometry}
use Rattle.model.specs.View.{View}
use Rattle.ordering.specs.Cuts.{Block}
use Rattle.plans_data.specs.Freeing.{freeing}
use Rattle.plans_naming.specs.Unlink.{lowered}
use Rattle.live_states.specs.Drafts.{Draft, GoesOn}
use Rattle.live_states.specs.Holdings.{Holdings}
use Rattle.live_removals.specs.Blocks.{freed, held_back}

-- Inode n loses so many links, after the block whose slot named it: it has more and stays, or goes with all its blocks, of which those are held that a snapshot keeps.
pub data LosesLinks (geo : Geometry) (view : View) (holdings : Holdings) (n fewer block : ℕ) (old new : Draft) (holds : List ℕ) : Type 0 where
  Stays : fewer < (view.inode n).links → GoesOn old new (lowered n (view.inode n) fewer block) → holds ≡ [] → LosesLinks geo view holdings n fewer block old new holds
  Goes : (view.inode n).links ≤ fewer → GoesOn old new (freeing n (freed geo view holdings n 0) (Block block ∷ [])) → holds ≡ held_back geo view holdings n 0
      → LosesLinks geo view holdings n fewer block old new holds
