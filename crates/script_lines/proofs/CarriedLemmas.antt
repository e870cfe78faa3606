-- Lines of a script are carried out, one after another.
use Rattle.std.proofs.Common.{◌≡◌, List, ℕ, [], ◌∷◌, ◌++◌, refl, IfOk, OnOk, Ok, Err, Result}
use Rattle.layout.specs.declared.refusal.Refusal.{Refusal}
use Rattle.device.specs.Media.{Held}
use Rattle.snapshot.specs.Alive.{Alive}
use Rattle.snapshot.specs.Asked.{asked}
use Rattle.snapshot.specs.Goes.{Applies}
use Rattle.snapshot.specs.declared.answer.Answer.{Answer}
use Rattle.snapshot.specs.declared.command.Command.{Command}
use Rattle.snapshot.proofs.AppliesLemmas.{runs_none, runs_on}
use Rattle.script_lines.specs.Carried.{HasRun, RunsOn}

pub always : {T E : Type 0} (P : Type 0) (r : Result T E) → P → OnOk r P
always P (Ok t) p = p
always P (Err e) p = tt

pub on_ok : {T E P Q : Type 0} (r : Result T E) → (P → Q) → OnOk r P → OnOk r Q
on_ok (Ok t) give p = give p
on_ok (Err e) give p = tt

pub both_if_ok : {T E : Type 0} (P R : T → Type 0) (Q : Type 0) (r : Result T E) → ((t : T) → P t → Q → R t) → IfOk r P → OnOk r Q → IfOk r R
both_if_ok P R Q (Ok t) give p q = give t p q
both_if_ok P R Q (Err e) give p q = tt

module _ {D : Type 0} (held : Held) (image : List (List ℕ)) (live : Alive D) where
  pub has_none : HasRun held image live held image live
  has_none = record { commands = []; replies = []; runs = runs_none held image live [] [] refl }

  pub none_on : RunsOn held image live held image live
  none_on held₀ image₀ start run = run

module _ {D : Type 0} (held held' : Held) (image image' : List (List ℕ)) (old new : Alive D) where
  pub one_on : (command : Command) (reply : Result Answer Refusal) → Applies held image old (asked old.kept.geometry command) reply held' image' new → RunsOn held image old held' image' new
  one_on command reply applies held₀ image₀ start run = record {
    commands = run.commands ++ command ∷ [];
    replies = run.replies ++ reply ∷ [];
    runs = runs_on held₀ held held' image₀ image image' start old new run.commands run.replies command reply run.runs applies;
  }

module _ {D : Type 0} (held held' held'' : Held) (image image' image'' : List (List ℕ)) (old mid new : Alive D) where
  pub then_on : RunsOn held image old held' image' mid → RunsOn held' image' mid held'' image'' new → RunsOn held image old held'' image'' new
  then_on one two held₀ image₀ start run = two held₀ image₀ start (one held₀ image₀ start run)
