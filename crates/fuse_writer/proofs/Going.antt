-- A volume goes by no call, and by one more.
use Rattle.std.proofs.Common.{ℕ, List, [], ◌∷◌, ◌++◌, map, Result, refl, sym, subst}
use Rattle.std.proofs.lemmas.List.{map-append}
use Rattle.layout.specs.declared.refusal.Refusal.{Refusal}
use Rattle.device.specs.Media.{Held}
use Rattle.snapshot.specs.Alive.{Alive}
use Rattle.snapshot.specs.Asked.{asked}
use Rattle.snapshot.specs.Goes.{Applies, Runs}
use Rattle.snapshot.specs.declared.answer.Answer.{Answer}
use Rattle.snapshot.specs.declared.command.Command.{Command}
use Rattle.snapshot.proofs.AppliesLemmas.{runs_none, runs_on}
use Rattle.fuse_writer.specs.Turns.{Call, GoesBy}

abbrev commands_of : List Call → List Command
commands_of calls = map (λ c. c.0) calls

abbrev replies_of : List Call → List (Result Answer Refusal)
replies_of calls = map (λ c. c.1) calls

module _ {D : Type 0} (honest : D → Type 0) (held_of : D → Held) (image_of : D → List (List ℕ)) where
  pub goes_by_none : (live : Alive D) → GoesBy honest held_of image_of live [] live
  goes_by_none live = record { honest_before = λ h. h; runs = λ h. runs_none (held_of live.device) (image_of live.device) live [] [] refl }

  pub goes_by_more : (old mid new : Alive D) (calls : List Call) (command : Command) (reply : Result Answer Refusal) → GoesBy honest held_of image_of old calls mid
      → (honest new.device → honest mid.device)
      → (honest new.device → Applies (held_of mid.device) (image_of mid.device) mid (asked mid.kept.geometry command) reply (held_of new.device) (image_of new.device) new)
      → GoesBy honest held_of image_of old (calls ++ (command, reply) ∷ []) new
  goes_by_more old mid new calls command reply goes before applies = record {
    honest_before = λ h. goes.honest_before (before h);
    runs = λ h.
        subst (λ (rs : List (Result Answer Refusal)). Runs (held_of old.device) (image_of old.device) old (map (asked old.kept.geometry) (commands_of (calls ++ (command, reply) ∷ []))) rs
        (held_of new.device) (image_of new.device) new)
        (sym (map-append (λ (c : Call). c.1) calls ((command, reply) ∷ [])))
        (subst (λ (cs : List Command). Runs (held_of old.device) (image_of old.device) old (map (asked old.kept.geometry) cs) (replies_of calls ++ reply ∷ [])
        (held_of new.device) (image_of new.device) new)
        (sym (map-append (λ (c : Call). c.0) calls ((command, reply) ∷ [])))
        (runs_on (held_of old.device) (held_of mid.device) (held_of new.device) (image_of old.device) (image_of mid.device) (image_of new.device) old mid new
        (commands_of calls) (replies_of calls) command reply (goes.runs (before h)) (applies h)));
  }
