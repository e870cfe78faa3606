-- Handles of a volume.
use Rattle.std.specs.Prelude.{◌≡◌, ◌<◌, ℕ, nat_lt, Option, Some, None, slice_set, IsSome, if◌then◌else◌}
use Rattle.model.specs.Cells.{put_at}
use Rattle.machine.specs.State.{handle_count}
use Rattle.live_states.specs.Holdings.{Holdings, opened_by}

-- the inode that a handle is open on, if it is one and is open
abbrev pub handle_at : Holdings → ℕ → Option ℕ
handle_at holdings h = if nat_lt h handle_count then opened_by holdings h else None

-- the least handle that is not open
pub record IsFreeHandle (holdings : Holdings) (h : ℕ) : Type 0 where
  pub within : h < handle_count
  pub free : opened_by holdings h ≡ None
  pub least : (g : ℕ) → g < h → IsSome (opened_by holdings g)

abbrev pub NoFreeHandle : Holdings → Type 0
NoFreeHandle holdings = (h : ℕ) → h < handle_count → IsSome (opened_by holdings h)

-- Handle h is opened on inode i, and nothing else changes.
pub record IsOpened (old : Holdings) (h i : ℕ) (new : Holdings) : Type 0 where
  pub opened : opened_by new ≡ put_at (opened_by old) h (Some i)
  pub held : new.held ≡ old.held
  pub snapshots : new.snapshots ≡ old.snapshots
  pub repairs : new.repairs ≡ old.repairs

-- what is left when this handle is closed, where there is one
abbrev pub closed : Holdings → ℕ → Holdings
closed holdings h = record holdings { opened = slice_set holdings.opened h None }

abbrev pub without : Holdings → Option ℕ → Holdings
without holdings None = holdings
without holdings (Some h) = closed holdings h
