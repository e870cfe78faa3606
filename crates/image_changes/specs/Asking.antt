-- What a volume went through of which each command was answered.
use Rattle.std.specs.Prelude.{◌≡◌, ℕ, List, [], ◌∷◌, ◌++◌, map, Ok, Err, Result}
use Rattle.layout.specs.declared.refusal.Refusal.{Refusal}
use Rattle.device.specs.Media.{Held}
use Rattle.snapshot.specs.Alive.{Alive}
use Rattle.machine.specs.Command.{Command as Request, Flush}
use Rattle.snapshot.specs.declared.answer.Answer.{Answer}
use Rattle.snapshot.specs.declared.command.Command.{Command}
use Rattle.snapshot.specs.Asked.{asked}
use Rattle.snapshot.specs.Goes.{Runs}

-- none of these replies is a refusal
abbrev pub AllAnswer : List (Result Answer Refusal) → Type 0
AllAnswer [] = Unit {0}
AllAnswer (Ok answer ∷ replies) = AllAnswer replies
AllAnswer (Err r ∷ replies) = ⊥

-- From one volume to another this was asked, and each of it was answered.
pub record Went {D : Type 0} (held : Held) (image : List (List ℕ)) (old : Alive D) (requests : List Request) (held' : Held) (image' : List (List ℕ)) (new : Alive D) : Type 0 where
  pub commands : List Command
  pub ask : map (asked old.kept.geometry) commands ≡ requests
  pub replies : List (Result Answer Refusal)
  pub answered : AllAnswer replies
  pub runs : Runs held image old (map (asked old.kept.geometry) commands) replies held' image' new

-- This comes next, after whatever was asked from whichever volume on.
abbrev pub Adds : {D : Type 0} → Held → List (List ℕ) → Alive D → List Request → Held → List (List ℕ) → Alive D → Type 0
Adds {D} held image old requests held' image' new = (held₀ : Held) (image₀ : List (List ℕ)) (start : Alive D) (before : List Request)
    → Went held₀ image₀ start before held image old → Went held₀ image₀ start (before ++ requests) held' image' new

-- Blocks are flushed next, one after another.
pub record AddsFlushes {D : Type 0} (held : Held) (image : List (List ℕ)) (old : Alive D) (held' : Held) (image' : List (List ℕ)) (new : Alive D) : Type 0 where
  pub addresses : List ℕ
  pub adds : Adds held image old (map Flush addresses) held' image' new

-- Blocks are flushed next, one after another, of which this one is the first.
pub record AddsFlushesBehind {D : Type 0} (a : ℕ) (held : Held) (image : List (List ℕ)) (old : Alive D) (held' : Held) (image' : List (List ℕ)) (new : Alive D) : Type 0 where
  pub addresses : List ℕ
  pub adds : Adds held image old (Flush a ∷ map Flush addresses) held' image' new
