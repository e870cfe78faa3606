-- How a mounted volume replied to a command of its users.
use Rattle.std.specs.Prelude.{◌≡◌, ℕ, List, Ok, Err, Result}
use Rattle.layout.specs.declared.refusal.Refusal.{Refusal}
use Rattle.model.specs.View.{View}
use Rattle.device.specs.Media.{Held}
use Rattle.machine.specs.Command.{Answer as Answered, Command as Request}
use Rattle.softdep.specs.Queued.{pending_of}
use Rattle.softdep.specs.Syncing.{AreWrites}
use Rattle.live.specs.Alive.{Alive, Answers, MayRefuse}
use Rattle.live.specs.Held.{HeldMore}
use Rattle.snapshot.specs.declared.answer.Answer.{Answer}
use Rattle.snapshot.specs.Asked.{StandsFor}
use Rattle.snapshot.specs.Goes.{GoesSafely, StaysSafe}

-- It answered, and its device held this since.
pub record Answering {D : Type 0} (held : Held) (image : List (List ℕ)) (old : Alive D) (command : Request) (given : Answer) (held' : Held) (image' : List (List ℕ)) (new : Alive D) : Type 0 where
  pub answer : Answered
  pub stands_for : StandsFor given answer
  pub later : List View
  pub since : HeldMore old.kept.geometry held held' later
  pub answers : Answers image old command answer image' new later
  pub sound : GoesSafely held image old command held' image' new

-- It refused, and its device was flushed at most.
pub record Refusing {D : Type 0} (held : Held) (image : List (List ℕ)) (old : Alive D) (command : Request) (r : Refusal) (held' : Held) (image' : List (List ℕ)) (new : Alive D) : Type 0 where
  pub refuses : MayRefuse image old command r
  pub flushes : AreWrites old.kept.geometry image held (pending_of old.queue) image' held' (pending_of new.queue)
  pub kept : new.kept ≡ old.kept
  pub holdings : new.holdings ≡ old.holdings
  pub sound : StaysSafe held old held' new

abbrev pub Replied : {D : Type 0} → Held → List (List ℕ) → Alive D → Request → Result Answer Refusal → Held → List (List ℕ) → Alive D → Type 0
Replied held image old command (Ok given) held' image' new = Answering held image old command given held' image' new
Replied held image old command (Err r) held' image' new = Refusing held image old command r held' image' new
