-- What a volume goes through by the lines of a script.
use Rattle.std.specs.Prelude.{◌≡◌, List, ℕ, map, Result}
use Rattle.layout.specs.declared.refusal.Refusal.{Refusal}
use Rattle.device.specs.Media.{Held}
use Rattle.snapshot.specs.Alive.{Alive}
use Rattle.snapshot.specs.Asked.{asked}
use Rattle.snapshot.specs.Goes.{Runs}
use Rattle.snapshot.specs.declared.answer.Answer.{Answer}
use Rattle.snapshot.specs.declared.command.Command.{Command}

-- From one volume to another some commands got replies, one after another.
pub record HasRun {D : Type 0} (held : Held) (image : List (List ℕ)) (old : Alive D) (held' : Held) (image' : List (List ℕ)) (new : Alive D) : Type 0 where
  pub commands : List Command
  pub replies : List (Result Answer Refusal)
  pub runs : Runs held image old (map (asked old.kept.geometry) commands) replies held' image' new

-- Some come next, after whatever came from whichever volume on.
abbrev pub RunsOn : {D : Type 0} → Held → List (List ℕ) → Alive D → Held → List (List ℕ) → Alive D → Type 0
RunsOn {D} held image old held' image' new = (held₀ : Held) (image₀ : List (List ℕ)) (start : Alive D) → HasRun held₀ image₀ start held image old → HasRun held₀ image₀ start held' image' new
