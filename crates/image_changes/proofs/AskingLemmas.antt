-- What was asked of a volume, command by command.
use Rattle.std.proofs.Common.{◌≡◌, ℕ, Bool, true, false, List, [], ◌∷◌, ◌++◌, map, Option, Some, None, is_some, IfOk, Ok, Err, Result, refl, sym, ap₂, ◌∙◌, subst}
use Rattle.std.specs.Prelude.{IsFalse, MatchOption}
use Rattle.std.proofs.lemmas.List.{append_assoc, append-nil, map-append}
use Rattle.layout.specs.declared.refusal.Refusal.{Refusal}
use Rattle.snapshot.specs.Alive.{Alive}
use Rattle.machine.specs.Command.{Command as Request, Flush}
use Rattle.model.specs.Layout.{Geometry}
use Rattle.device.specs.Media.{Held}
use Rattle.snapshot.specs.declared.answer.Answer.{Answer}
use Rattle.snapshot.specs.declared.command.Command.{Command}
use Rattle.snapshot.specs.Asked.{asked}
use Rattle.snapshot.specs.Goes.{Applies}
use Rattle.snapshot.proofs.AppliesLemmas.{runs_none, runs_on}
use Rattle.image_changes.specs.Asking.{Adds, AddsFlushes, AddsFlushesBehind, AllAnswer, Went}

pub answered_more : (replies : List (Result Answer Refusal)) (answer : Answer) → AllAnswer replies → AllAnswer (replies ++ Ok answer ∷ [])
answered_more [] answer a = tt
answered_more (Ok x ∷ rs) answer a = answered_more rs answer a
answered_more (Err r ∷ rs) answer a = absurd a

module _ {D : Type 0} (held held' : Held) (image image' : List (List ℕ)) (old new : Alive D) where
  -- an answered command adds what it asks
  pub adds_one : (command : Command) (answer : Answer) (request : Request) → Applies held image old (asked old.kept.geometry command) (Ok answer) held' image' new
      → ((geo : Geometry) → asked geo command ≡ request) → Adds held image old (request ∷ []) held' image' new
  adds_one command answer request applies is held₀ image₀ start before went = record {
    commands = went.commands ++ command ∷ [];
    ask = map-append (asked start.kept.geometry) went.commands (command ∷ []) ∙ ap₂ (λ rs r. rs ++ r ∷ []) went.ask (is start.kept.geometry);
    replies = went.replies ++ Ok answer ∷ [];
    answered = answered_more went.replies answer went.answered;
    runs = runs_on held₀ held held' image₀ image image' start old new went.commands went.replies command (Ok answer) went.runs applies;
  }

  pub adds_same : (requests more : List Request) → requests ≡ more → Adds held image old requests held' image' new → Adds held image old more held' image' new
  adds_same requests more e adds = subst (λ rs. Adds held image old rs held' image' new) e adds

  -- what a call gives
  pub answered_adds : (result : Result Answer Refusal) (command : Command) (Honest : Type 0) → (Honest → Applies held image old (asked old.kept.geometry command) result held' image' new)
      → IfOk result (λ x. Honest → (request : Request) → ((geo : Geometry) → asked geo command ≡ request) → Adds held image old (request ∷ []) held' image' new)
  answered_adds (Ok answer) command Honest applied = λ honest request is. adds_one command answer request (applied honest) is
  answered_adds (Err r) command Honest applied = tt

  -- a block was flushed
  pub one_flush : (a : ℕ) → Adds held image old (Flush a ∷ []) held' image' new → AddsFlushes held image old held' image' new
  one_flush a adds = record { addresses = a ∷ []; adds = adds }

module _ {D : Type 0} (held : Held) (image : List (List ℕ)) (live : Alive D) where
  -- nothing was asked yet
  pub went_nowhere : Went held image live [] held image live
  went_nowhere = record { commands = []; ask = refl; replies = []; answered = tt; runs = runs_none held image live [] [] refl }

  pub adds_none : Adds held image live [] held image live
  adds_none held₀ image₀ start before went = subst (λ rs. Went held₀ image₀ start rs held image live) (sym (append-nil before)) went

  pub no_flush : AddsFlushes held image live held image live
  no_flush = record { addresses = []; adds = adds_none }

module _ {D : Type 0} (held held' held'' : Held) (image image' image'' : List (List ℕ)) (old mid new : Alive D) where
  pub adds_then : (first second : List Request) → Adds held image old first held' image' mid → Adds held' image' mid second held'' image'' new → Adds held image old (first ++ second) held'' image'' new
  adds_then first second one two held₀ image₀ start before went =
      subst (λ rs. Went held₀ image₀ start rs held'' image'' new) (append_assoc before first second) (two held₀ image₀ start (before ++ first) (one held₀ image₀ start before went))

  -- after some flushes, others
  pub flushes_then : AddsFlushes held image old held' image' mid → AddsFlushes held' image' mid held'' image'' new → AddsFlushes held image old held'' image'' new
  flushes_then one two = record {
    addresses = one.addresses ++ two.addresses;
    adds = subst (λ rs. Adds held image old rs held'' image'' new) (sym (map-append Flush one.addresses two.addresses)) (adds_then (map Flush one.addresses) (map Flush two.addresses) one.adds two.adds);
  }

-- behind one flush, others
module _ {D : Type 0} (held held' held'' : Held) (image image' image'' : List (List ℕ)) (old mid new : Alive D) where
  pub flushes_behind : (a : ℕ) → Adds held image old (Flush a ∷ []) held' image' mid → AddsFlushes held' image' mid held'' image'' new → AddsFlushesBehind a held image old held'' image'' new
  flushes_behind a one others = record { addresses = others.addresses; adds = adds_then held held' held'' image image' image'' old mid new (Flush a ∷ []) (map Flush others.addresses) one others.adds }

-- nothing is found where a test says so
pub where_none : (found : Option ℕ) (is : Bool) (P : Type 0) (Q : ℕ → Type 0) → MatchOption found P Q → is ≡ is_some found → IsFalse is → P
where_none None is P Q nothing test absent = nothing
where_none (Some a) is P Q some test absent = let bad : true ≡ false = sym test ∙ absent in cc
