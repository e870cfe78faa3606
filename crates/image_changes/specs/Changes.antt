-- What a volume went through that was changed and written.
use Rattle.std.specs.Prelude.{◌≡◌, ℕ, List, [], ◌∷◌, ◌++◌, map, Ok, Result}
use Rattle.layout.specs.declared.refusal.Refusal.{Refusal}
use Rattle.device.specs.Media.{Held}
use Rattle.snapshot.specs.Alive.{Alive}
use Rattle.snapshot.specs.Mounting.{IsMountable}
use Rattle.live_states.specs.Holdings.{IsIdle}
use Rattle.softdep.specs.Queued.{fresh_queue, pending_of}
use Rattle.machine.specs.Command.{Sync as AsksSync}
use Rattle.snapshot.specs.declared.answer.Answer.{Answer}
use Rattle.snapshot.specs.declared.command.Command.{Command}
use Rattle.snapshot.specs.declared.command.Command.TheVariants.{Sync}
use Rattle.snapshot.specs.Asked.{asked}
use Rattle.snapshot.specs.Goes.{Applies, Runs}

-- a sync, which was answered
pub record Writes {D : Type 0} (held : Held) (image : List (List ℕ)) (old : Alive D) (held' : Held) (image' : List (List ℕ)) (new : Alive D) : Type 0 where
  pub answer : Answer
  pub applies : Applies held image old AsksSync (Ok answer) held' image' new

-- these commands with these replies, and then a sync, which was answered
pub record Changes {D : Type 0} (held : Held) (image : List (List ℕ)) (old : Alive D) (commands : List Command) (replies : List (Result Answer Refusal))
    (held' : Held) (image' : List (List ℕ)) (new : Alive D) : Type 0 where
  pub answer : Answer
  pub runs : Runs held image old (map (asked old.kept.geometry) (commands ++ Sync ∷ [])) (replies ++ Ok answer ∷ []) held' image' new

-- The volume of a device that held this and has this image, just mounted, went through these commands with these replies, and then through a sync.
pub record ChangesMounted {D : Type 0} (held : Held) (image : List (List ℕ)) (commands : List Command) (replies : List (Result Answer Refusal)) (held' : Held) (image' : List (List ℕ)) (new : Alive D) : Type 0 where
  pub mounted : Alive D
  pub mountable : IsMountable mounted.kept.geometry image
  pub pending : pending_of mounted.queue ≡ []
  -- nothing was issued: so it is sound on its medium, where nothing of that is loose
  pub fresh : mounted.queue ≡ fresh_queue mounted.kept.geometry
  pub idle : IsIdle mounted.holdings
  pub changes : Changes held image mounted commands replies held' image' new
