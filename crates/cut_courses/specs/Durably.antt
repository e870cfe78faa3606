-- What is durable on the medium of a volume, beside what its device answers.
use Rattle.std.specs.Prelude.{◌≡◌, ℕ, Bool, List}
use Rattle.model.specs.Layout.{Geometry}
use Rattle.model.specs.View.{View}
use Rattle.ordering.specs.Cuts.{Pending, IsClosed, seen, rest}
use Rattle.ordering.specs.Ghosts.{at_rest}
use Rattle.queue_model.specs.Files.{Written, updates}
use Rattle.queue_model.specs.History.{Holds}
use Rattle.queue_model.specs.Course.{IsSafeImage}
use Rattle.courses.specs.Leads.{IsMoment}

-- The durable view and what is not durable over it are a good moment at rest since some mount. What the device answers shows a closed cut of what is not durable, and the rest of it is pending.
pub record IsDurably (geo : Geometry) (durable : View) (unsynced : List Pending) (disk : View) (q : List Pending) (held safe : ℕ → Bool) : Type 0 where
  pub mount : View
  pub history : List Written
  pub cut : List Bool
  pub moment : IsMoment geo mount history cut (at_rest held safe) durable unsynced
  pub loose : List Bool
  pub closed : IsClosed unsynced loose
  pub answers : disk ≡ seen durable unsynced loose
  pub pending : q ≡ rest unsynced loose

-- A view is that of a closed cut of what is not durable, and so of one of all that was written since mount, which holds what is durable: it obeys the rules, reaches the safe files, and holds in each block of a file what that very file wrote.
pub record IsSafelyShown (geo : Geometry) (durable : View) (unsynced : List Pending) (mount : View) (history : List Written) (cut : List Bool) (safe : ℕ → Bool) (view : View) : Type 0 where
  pub some : List Bool
  pub closed : IsClosed unsynced some
  pub shows : view ≡ seen durable unsynced some
  pub whole : List Bool
  pub since : view ≡ seen mount (updates history) whole
  pub holds : Holds whole cut
  pub safe_image : IsSafeImage geo mount history whole safe
