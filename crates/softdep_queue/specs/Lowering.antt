-- One update less to wait for.
use Rattle.std.specs.Prelude.{◌≡◌, ℕ, ◌-◌, ◌<◌, ◌≤◌, Bool, true, false, not, ◌&&◌, ◌==◌, if◌then◌else◌, List, IsTrue}
use Rattle.std.specs.List.{Contains}
use Rattle.model.specs.Layout.{Geometry}
use Rattle.ordering.specs.Cuts.{Pending}
use Rattle.queue_model.specs.Entries.{Entry, Queue}
use Rattle.softdep_queue.specs.declared.table.Table.{Table}
use Rattle.softdep_queue.specs.Counts.{occurrences}
use Rattle.softdep_queue.specs.Ties.{Ties}

-- whether a block is the one at hand, or another one
abbrev pub is_chosen : ℕ → Bool → ℕ → Bool
is_chosen a true b = b == a
is_chosen a false b = not (b == a)

-- one update less for this entry, if its block is chosen
abbrev pub less : ℕ → Bool → ℕ → (ℕ → Entry → ℕ) → ℕ → Entry → ℕ
less a here w due b e = if is_chosen a here b && e.id == w then due b e - 1 else due b e

-- the number is that of an entry which waits for something, if its block is chosen
pub record MayBeLowered (t : Table) (w a : ℕ) (here : Bool) : Type 0 where
  pub geo : Geometry
  pub queue : Queue
  pub q : List Pending
  pub due : ℕ → Entry → ℕ
  pub block : ℕ
  pub entry : Entry
  pub ties : Ties geo t queue q due
  pub listed : Contains (queue.lists block) entry
  pub id : entry.id ≡ w
  pub waits : IsTrue (is_chosen a here block) → 0 < due block entry

-- one update less for each time that an entry of a chosen block waits for this number
abbrev pub released : ℕ → Bool → ℕ → (ℕ → Entry → ℕ) → ℕ → Entry → ℕ
released a here i due b e = if is_chosen a here b then due b e - occurrences i e.waits else due b e

-- the entries of the chosen blocks wait for no less than for this number
abbrev pub AreWaiting : Queue → (ℕ → Entry → ℕ) → ℕ → Bool → ℕ → Type 0
AreWaiting queue due a here i = (b : ℕ) (e : Entry) → Contains (queue.lists b) e → IsTrue (is_chosen a here b) → occurrences i e.waits ≤ due b e

-- the number is that of an entry for which others wait
pub record MayBeReleased (t : Table) (i a : ℕ) (here : Bool) : Type 0 where
  pub geo : Geometry
  pub queue : Queue
  pub q : List Pending
  pub due : ℕ → Entry → ℕ
  pub block : ℕ
  pub entry : Entry
  pub ties : Ties geo t queue q due
  pub listed : Contains (queue.lists block) entry
  pub id : entry.id ≡ i
  pub waiting : AreWaiting queue due a here i
