-- What a volume keeps between commands, and what it is that a command is carried out.
use Rattle.std.specs.Prelude.{◌≡◌, ℕ, Bool, List, Ok, IsTrue}
use Rattle.model.specs.Layout.{Geometry, IsGeometry}
use Rattle.model.specs.View.{View}
use Rattle.ordering.specs.Cuts.{Pending, users_view}
use Rattle.ordering.specs.Ghosts.{at_rest}
use Rattle.ordering.specs.Agrees.{AllAgree}
use Rattle.machine.specs.State.{State}
use Rattle.machine.specs.Command.{Command, Answer}
use Rattle.machine.specs.Step.{Step}
use Rattle.machine.specs.Balance.{Balance}
use Rattle.plans_data.specs.Issues.{Issues}

-- with these updates pending over the device, users see this state
pub record Stands (geo : Geometry) (disk : View) (q : List Pending) (old : State) (safe : ℕ → Bool) : Type 0 where
  pub geometry : IsGeometry geo
  pub same : users_view disk q ≡ old.view
  -- everything that is marked or counted is in use, held, or owed a repair
  pub balance : Balance geo old
  -- each closed cut agrees with what users see
  pub agree : AllAgree geo disk q (at_rest old.held safe)
  -- what no stop loses is a file
  pub files : (f : ℕ) → IsTrue (safe f) → (old.view.inode f).mode ≡ 1

-- a command with this answer leads to the new state by updates that may each be issued in its turn, and the volume stands as before
pub record IsCarriedOut (geo : Geometry) (disk : View) (q : List Pending) (old : State) (command : Command) (answer : Answer) (plan : List Pending) (new : State)
    (safe safe' : ℕ → Bool) : Type 0 where
  pub step : Step geo old command (Ok answer) new
  pub issues : Issues geo disk q (at_rest old.held safe) plan (at_rest new.held safe')
  pub stands : Stands geo disk plan new safe'
