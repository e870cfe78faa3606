-- What is recorded after one more step.
use Rattle.std.proofs.Common.{◌≡◌, ℕ, Bool, List, [], ◌∷◌, ◌++◌, get_or, sym, ap, ap₂, ◌∙◌, OnErr, OnOk}
use Rattle.std.proofs.lemmas.List.{map-append}
use Rattle.std.specs.declared.result.Result.{Result}
use Rattle.std.specs.declared.result.Result.TheVariants.{Ok, Err}
use Rattle.device.specs.declared.cache.Step.{Step}
use Rattle.device.specs.declared.cache.Step.TheVariants.{Wrote, Synced}
use Rattle.device.specs.Media.{Held, held_after, image_of as answered_image, step, synced, wrote}
use Rattle.device.specs.MediaLaws.{image_of-held_after}
use Rattle.device.specs.Writes.{image_after}
use Rattle.device.proofs.MediaLemmas.{held_after-push, writes_in-synced, writes_in-wrote}
use Rattle.recording.specs.declared.written.Written.{Written}
use Rattle.recording.specs.Recorded.{IsRecorded, writes_of}

module _ {D : Type 0} (keeps_order : Bool) (held_of : D → Held) (first : List D) (old new : D) (writes : List Written) (is : IsRecorded keeps_order held_of first old writes) where
  one_more : (s : Step) → held_of new ≡ step keeps_order (held_of old) s → held_of new ≡ held_after keeps_order (held_of is.began) (is.steps ++ s ∷ [])
  one_more s went = went ∙ ap (λ h. step keeps_order h s) is.went ∙ sym (held_after-push keeps_order (held_of is.began) is.steps s)

  -- a write that was answered
  pub wrote_recorded : (w : Written) → held_of new ≡ wrote keeps_order (held_of old) w.address w.block → IsRecorded keeps_order held_of first new (writes ++ w ∷ [])
  wrote_recorded w went = record {
    began = is.began;
    first_is = is.first_is;
    steps = is.steps ++ Wrote w.address w.block ∷ [];
    went = one_more (Wrote w.address w.block) went;
    recorded =
        writes_in-wrote is.steps w.address w.block ∙ ap (λ ws. ws ++ (w.address, w.block) ∷ []) is.recorded
        ∙ sym (map-append (λ (v : Written). (v.address, v.block)) writes (w ∷ []));
  }

  -- a call that changed nothing
  pub same_recorded : held_of new ≡ held_of old → IsRecorded keeps_order held_of first new writes
  same_recorded same = record { began = is.began; first_is = is.first_is; steps = is.steps; went = same ∙ is.went; recorded = is.recorded }

  -- a sync
  pub synced_recorded : {E : Type 0} (result : Result (Unit {0}) E) → OnOk result (held_of new ≡ synced (held_of old)) → OnErr result (held_of new ≡ held_of old) → IsRecorded keeps_order held_of first new writes
  synced_recorded (Ok v) went fault = record {
    began = is.began;
    first_is = is.first_is;
    steps = is.steps ++ Synced ∷ [];
    went = one_more Synced went;
    recorded = writes_in-synced is.steps ∙ is.recorded;
  }
  synced_recorded (Err e) went fault = same_recorded fault

-- what the device answers
pub image_recorded : {D : Type 0} (keeps_order : Bool) (held_of : D → Held) (image_of : D → List (List ℕ)) (firsts : List D) (device : D) (writes : List Written)
    → ((d : D) → image_of d ≡ answered_image (held_of d).now) → IsRecorded keeps_order held_of firsts device writes → (first : D) → firsts ≡ first ∷ []
    → image_of device ≡ image_after (image_of first) (writes_of writes)
image_recorded keeps_order held_of image_of firsts device writes answers is first alone =
    answers device ∙ ap (λ (h : Held). answered_image h.now) is.went ∙ image_of-held_after keeps_order (held_of is.began) is.steps
    ∙ ap₂ (λ i ws. image_after i ws) (sym (answers is.began) ∙ ap image_of (ap (λ ds. get_or ds 0 is.began) (sym is.first_is ∙ alone))) is.recorded
