-- That the last reply blames the device only where it failed.
use Rattle.std.proofs.Common.{◌≡◌, ℕ, List, [], ◌∷◌, ◌++◌, length, map, take, Err, Ok, Result, sym, ◌∙◌, subst}
use Rattle.std.proofs.lemmas.List.{same_from_push}
use Rattle.layout.specs.declared.refusal.Refusal.{Refusal}
use Rattle.layout.specs.declared.refusal.Refusal.TheVariants.{Device, NoMemory}
use Rattle.device.specs.Media.{Held}
use Rattle.device.specs.Writes.{HasFailed}
use Rattle.snapshot.specs.Alive.{Alive}
use Rattle.snapshot.specs.Asked.{asked}
use Rattle.snapshot.specs.Between.{Ran}
use Rattle.snapshot.specs.Goes.{Runs}
use Rattle.snapshot.specs.declared.answer.Answer.{Answer}
use Rattle.snapshot.specs.declared.command.Command.{Command}
use Rattle.snapshot.proofs.Blaming.{same_refusal}
use Rattle.image_changes.specs.Asking.{AllAnswer}
use Rattle.image_changes.specs.Refused.{BlamesRightly}

no_refusal : (replies : List (Result Answer Refusal)) (r : Refusal) → AllAnswer (replies ++ Err r ∷ []) → ⊥
no_refusal [] r all = all
no_refusal (Ok x ∷ rs) r all = no_refusal rs r all
no_refusal (Err q ∷ rs) r all = all

pub memory_is_no_device : (r : Refusal) → r ≡ NoMemory → r ≡ Device → ⊥
memory_is_no_device r memory device = let bad : NoMemory ≡ Device = sym memory ∙ device in cc

module _ {D : Type 0} (honest : D → Type 0) (held_of : D → Held) (image_of : D → List (List ℕ)) (failures_of : D → ℕ) (old mid new : Alive D) (commands : List Command) where
  -- the next command was refused behind so many replies
  pub blames_last : (replies more : List (Result Answer Refusal)) (r : Refusal) (i : ℕ) → more ≡ replies ++ Err r ∷ [] → length replies ≡ i → (honest mid.device → honest old.device)
      → (honest mid.device → Runs (held_of old.device) (image_of old.device) old (map (asked old.kept.geometry) (take i commands)) replies (held_of mid.device) (image_of mid.device) mid)
      → (r ≡ Device → HasFailed (failures_of mid.device) (failures_of new.device)) → BlamesRightly honest held_of image_of failures_of old commands more new
  blames_last replies more r i pushed long first ran failed earlier same =
      let two = same_from_push replies earlier (Err r) (Err Device) (sym pushed ∙ same) in
      record {
        before = mid;
        honest_before = first;
        ran = λ h. subst (λ rs. Ran held_of image_of old (take (length rs) commands) rs mid) two.0 (subst (λ n. Ran held_of image_of old (take n commands) replies mid) (sym long) (ran h));
        failed = failed (same_refusal r Device two.1);
      }

  -- none was refused
  pub blames_none : (replies : List (Result Answer Refusal)) → AllAnswer replies → BlamesRightly honest held_of image_of failures_of old commands replies new
  blames_none replies all earlier same = absurd (no_refusal earlier Device (subst AllAnswer same all))
