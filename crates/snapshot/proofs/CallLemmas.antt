-- What a volume goes through by a command of its users, and by one that it refuses.
use Rattle.std.proofs.Common.{◌≡◌, ◌⊎◌, ℕ, List, [], ◌∷◌, Ok, Err, Result, IfErr, OnErr, OnOk, inl, refl, sym, ap, subst}
use Rattle.layout.specs.declared.refusal.Refusal.{Refusal}
use Rattle.layout.specs.declared.refusal.Refusal.TheVariants.{NoMemory, Device}
use Rattle.device.specs.Media.{Held, begun, settled_on}
use Rattle.machine.specs.Causes.{FirstRefusal}
use Rattle.machine.specs.Command.{Answer as Answered, Command as Request, Freeze, Reply as Response}
use Rattle.machine.specs.State.{State}
use Rattle.machine.specs.Step.{Step}
use Rattle.frozen.specs.Kept.{Kept}
use Rattle.softdep.specs.Queued.{pending_of}
use Rattle.softdep.specs.Syncing.{AreWrites}
use Rattle.live_states.specs.Holdings.{Beside, Holdings}
use Rattle.live.specs.Alive.{Alive, Answers, StandsSo, state_of}
use Rattle.snapshot.specs.declared.answer.Answer.{Answer}
use Rattle.snapshot.specs.Goes.{Applies, Goes, GoesSafely, HasBeside, IsBeside, Replies, StaysSafe}
use Rattle.snapshot.specs.Replied.{Replied}
use Rattle.snapshot.proofs.Going.{answered, flushed, flushed_state, held_nothing, refused}
use Rattle.snapshot.proofs.Joining.{joined}

module _ {D : Type 0} (held held' : Held) (image image' : List (List ℕ)) (old new : Alive D) (so : StandsSo image' new)
    (flushes : AreWrites old.kept.geometry image held (pending_of old.queue) image' held' (pending_of new.queue)) (kept : new.kept ≡ old.kept) (holdings : new.holdings ≡ old.holdings) (sound : StaysSafe held old held' new) where
  -- the volume with what it keeps and has as before
  abbrev Mid : Kept → Holdings → Alive D
  Mid k h = record { device = new.device; queue = new.queue; kept = k; holdings = h }

  module _ (beside : Beside) (is : IsBeside image old beside) (command : Request) (r : Refusal)
      (cause : (r ≡ NoMemory) ⊎ ((r ≡ Device) ⊎ FirstRefusal old.kept.geometry (state_of image old beside) command r)) where
    abbrev Refuses : Alive D → Type 0
    Refuses x = Goes beside held image old (command ∷ []) (Err r ∷ []) beside held' image' x

    so' : StandsSo image' (Mid old.kept old.holdings)
    so' = subst (λ k. StandsSo image' (Mid k old.holdings)) kept (subst (λ h. StandsSo image' (Mid new.kept h)) holdings so)

    sound' : StaysSafe held old held' (Mid old.kept old.holdings)
    sound' = subst (λ k. StaysSafe held old held' (Mid k old.holdings)) kept (subst (λ h. StaysSafe held old held' (Mid new.kept h)) holdings sound)

    flushed_first : Goes beside held image old [] [] beside held' image' (Mid old.kept old.holdings)
    flushed_first = flushed held held' image image' old beside is new.queue flushes new.device so' sound'

    then_refused : Refuses (Mid old.kept old.holdings)
    then_refused =
        let geo = old.kept.geometry in
        let s = state_of image old beside in
        let t = state_of image' (Mid old.kept old.holdings) beside in
        let same : t ≡ s = flushed_state held held' image image' old beside is new.queue flushes old.holdings in
        joined beside beside beside held held' held' image image' image' old (Mid old.kept old.holdings) (Mid old.kept old.holdings) [] (command ∷ []) [] (Err r ∷ []) flushed_first
        (refused held' held' image' (Mid old.kept old.holdings) beside flushed_first.is refl image' (Mid old.kept old.holdings) command r refl refl refl refl
        (subst (λ (x : State). Step geo x command (Err r) x) (sym same) (cause, refl)))

    pub refused_after : Refuses new
    refused_after = subst (λ k. Refuses (Mid k new.holdings)) (sym kept) (subst (λ h. Refuses (Mid old.kept h)) (sym holdings) then_refused)

module _ {D : Type 0} (held held' : Held) (image image' : List (List ℕ)) (old new : Alive D) (so : StandsSo image' new) where
  pub applies : (command : Request) (reply : Result Answer Refusal) → Replied held image old command reply held' image' new → Applies held image old command reply held' image' new
  applies command (Ok given) r beside is = (beside, Ok r.answer, r.stands_for, answered held held' image image' old new beside command r.answer r.later r.since r.answers r.sound so is)
  applies command (Err e) r beside is = (beside, Err e, refl, refused_after held held' image image' old new so r.flushes r.kept r.holdings r.sound beside is command e (r.refuses beside is.belongs).0)

pub beside_kept : {D : Type 0} (held held' : Held) (image image' : List (List ℕ)) (old new : Alive D) (command : Request) (reply : Result Answer Refusal)
    → HasBeside image old → Applies held image old command reply held' image' new → HasBeside image' new
beside_kept held held' image image' old new command reply has applied = let a = applied has.beside has.is in record { beside = a.0; is = a.3.is }

-- ---- by what a call of the mounted volume promises

pub on_ok : {T E : Type 0} {P Q : Type 0} → (P → Q) → (r : Result T E) → OnOk r P → OnOk r Q
on_ok f (Ok t) p = f p
on_ok f (Err e) p = p

pub on_ok₂ : {T E : Type 0} {P P' Q : Type 0} → (P → P' → Q) → (r : Result T E) → OnOk r P → OnOk r P' → OnOk r Q
on_ok₂ f (Ok t) p q = f p q
on_ok₂ f (Err e) p q = p

pub if_err : {T E : Type 0} {P Q : E → Type 0} {U : Type 0} → ((e : E) → P e → U → Q e) → (r : Result T E) → IfErr r P → OnErr r U → IfErr r Q
if_err f (Ok t) p u = p
if_err f (Err e) p u = f e p u

module _ {D : Type 0} (honest : D → Type 0) (held_of : D → Held) (image_of : D → List (List ℕ)) (old new : Alive D) where
  abbrev Replying : Request → Response → Type 0
  Replying command reply = Replies (held_of old.device) (image_of old.device) old command reply (held_of new.device) (image_of new.device) new

  -- the device is as it was
  pub quiet_ok : (command : Request) (answer : Answered) → new.device ≡ old.device → (honest new.device → StandsSo (image_of new.device) new)
      → (honest old.device → Answers (image_of old.device) old command answer (image_of new.device) new []) → (honest old.device → GoesSafely (held_of old.device) (image_of old.device) old command (held_of new.device) (image_of new.device) new) → honest new.device → Replying command (Ok answer)
  quiet_ok command answer same so done sound h beside is =
      answered (held_of old.device) (held_of new.device) (image_of old.device) (image_of new.device) old new beside command answer []
      (held_nothing old.kept.geometry (held_of old.device) (held_of new.device) (ap held_of same)) (done (subst honest same h)) (sound (subst honest same h)) (so h) is

  -- nothing changed
  pub same_err : (command : Request) (r : Refusal) → new ≡ old → ((beside : Beside) → IsBeside (image_of old.device) old beside → (r ≡ NoMemory) ⊎ ((r ≡ Device) ⊎ FirstRefusal old.kept.geometry (state_of (image_of old.device) old beside) command r))
      → Replying command (Err r)
  same_err command r same cause beside is =
      refused (held_of old.device) (held_of new.device) (image_of old.device) old beside is (ap (λ (l : Alive D). held_of l.device) same) (image_of new.device) new command r
      (ap (λ (l : Alive D). image_of l.device) same) (ap (λ (l : Alive D). l.queue) same) (ap (λ (l : Alive D). l.kept) same) (ap (λ (l : Alive D). l.holdings) same) (cause beside is, refl)

  -- something stands beside it again
  pub kept_ok : {T : Type 0} (command : Request) (answer : Answered) (r : Result T Refusal) → OnOk r (honest new.device → Replying command (Ok answer)) → OnErr r (new ≡ old)
      → (honest old.device → HasBeside (image_of old.device) old) → (honest new.device → honest old.device) → honest new.device → HasBeside (image_of new.device) new
  kept_ok command answer (Ok t) goes left has back h = let b = has (back h) in record { beside = b.beside; is = (goes h b.beside b.is).is }
  kept_ok command answer (Err e) goes left has back h = subst (λ (l : Alive D). HasBeside (image_of l.device) l) (sym left) (has (back h))

-- ---- whatever the device

pub same_device : {D : Type 0} {T : Type 0} (old new : Alive D) (holdings : Holdings) (r : Result T Refusal) → OnOk r (new ≡ record old { holdings = holdings }) → OnErr r (new ≡ old) → new.device ≡ old.device
same_device old new holdings (Ok t) e u = ap (λ (l : Alive _). l.device) e
same_device old new holdings (Err x) e u = ap (λ (l : Alive _). l.device) u

-- a volume that is as it was but for its device has the same beside it
pub same_beside : {D : Type 0} (image image' : List (List ℕ)) (old new : Alive D) → image' ≡ image → new.queue ≡ old.queue → new.kept ≡ old.kept → new.holdings ≡ old.holdings → HasBeside image old → HasBeside image' new
same_beside image image' old new same_image queue kept holdings has =
    let goes = refused (begun (settled_on [])) (begun (settled_on [])) image old has.beside has.is refl image' new Freeze NoMemory same_image queue kept holdings (inl refl, refl) in
    record { beside = has.beside; is = goes.is }

pub nothing : {T E : Type 0} (r : Result T E) → OnErr r (Unit {0})
nothing (Ok t) = tt
nothing (Err e) = tt
