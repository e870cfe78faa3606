-- A command of users is answered, or refused.
use Rattle.std.proofs.Common.{◌∷◌, ◌≡◌, ℕ, Bool, List, [], Ok, Err, Result, IfErr, IfOk, IsTrue, MatchResult, OnErr, OnOk, refl, sym, ap, ◌∙◌, subst}
use Rattle.std.proofs.lemmas.List.Elements.{All-nil}
use Rattle.std.proofs.lemmas.List.{append-nil}
use Rattle.layout.specs.declared.refusal.Refusal.{Refusal}
use Rattle.model.specs.Image.{IsImage}
use Rattle.model.specs.View.{View}
use Rattle.device.specs.Media.{Held, images_held}
use Rattle.ordering.specs.Cuts.{users_view}
use Rattle.machine.specs.Command.{Answer as Answered, Command as Request, Done as IsDone}
use Rattle.machine.specs.Step.{Step}
use Rattle.queue_model.specs.Sync.{WritesNone}
use Rattle.courses.specs.Serves.{Quietly, Serves, is_quiet}
use Rattle.softdep.specs.Queued.{Queued, pending_of}
use Rattle.softdep.specs.Syncing.{AreWrites}
use Rattle.frozen.specs.Kept.{Kept}
use Rattle.live_states.specs.Holdings.{Beside, held_by, opened_by}
use Rattle.live_states.specs.Planned.{safe_after}
use Rattle.live.specs.Alive.{Alive, Answers, MayRefuse, disk_of, state_of}
use Rattle.live.specs.Held.{HeldMore}
use Rattle.snapshot.specs.declared.answer.Answer.{Answer}
use Rattle.snapshot.specs.declared.answer.Answer.TheVariants.{Done}
use Rattle.live.specs.Durable.{GoesSoundly, pieces_of}
use Rattle.live.proofs.Durably.{goes_seen, goes_still}
use Rattle.snapshot.specs.Asked.{StandsFor}
use Rattle.snapshot.specs.Goes.{GoesSafely, StaysSafe}
use Rattle.snapshot.specs.Replied.{Replied}
use Rattle.snapshot.proofs.Going.{held_nothing, quiet_asks}

-- nothing is flushed
pub no_flushes : {D : Type 0} (held held' : Held) (image image' : List (List ℕ)) (old new : Alive D) → image' ≡ image → held' ≡ held → new.queue ≡ old.queue
    → AreWrites old.kept.geometry image held (pending_of old.queue) image' held' (pending_of new.queue)
no_flushes held held' image image' old new same_image same_held queue =
    subst (λ i. AreWrites old.kept.geometry image held (pending_of old.queue) i held' (pending_of new.queue)) (sym same_image)
    (subst (λ (q : Queued). AreWrites old.kept.geometry image held (pending_of old.queue) image held' (pending_of q)) (sym queue)
    (record { blocks = []; more = []; writes = WritesNone; held_now = ap images_held same_held ∙ sym (append-nil (images_held held)); framed = λ is. (is, All-nil (IsImage old.kept.geometry)) }))

module _ {D : Type 0} (held held' : Held) (image image' : List (List ℕ)) (old new : Alive D) (command : Request) {T : Type 0} (as_given : T → Answer) (as_answer : T → Answered)
    (stands_for : (t : T) → StandsFor (as_given t) (as_answer t)) where
  -- by what the call of the volume promises
  pub replied : (outcome : Result T Refusal) (reply : Result Answer Refusal) → MatchResult outcome (λ t. reply ≡ Ok (as_given t)) (λ r. reply ≡ Err r)
      → IfOk outcome (λ t. (later : List View) × HeldMore old.kept.geometry held held' later × Answers image old command (as_answer t) image' new later)
      → IfErr outcome (λ r. MayRefuse image old command r)
      → OnErr outcome (AreWrites old.kept.geometry image held (pending_of old.queue) image' held' (pending_of new.queue) × (new.kept ≡ old.kept) × (new.holdings ≡ old.holdings) × StaysSafe held old held' new)
      → OnOk outcome (GoesSafely held image old command held' image' new)
      → Replied held image old command reply held' image' new
  replied (Ok t) reply told done refused left sound =
      subst (λ x. Replied held image old command x held' image' new) (sym told) (record { answer = as_answer t; stands_for = stands_for t; later = done.0; since = done.1; answers = done.2; sound = sound })
  replied (Err r) reply told done refused left sound =
      subst (λ x. Replied held image old command x held' image' new) (sym told) (record { refuses = refused; flushes = left.0; kept = left.1; holdings = left.2; sound = left.3 })

-- ---- by each kind of call

module _ {D : Type 0} (honest : D → Type 0) (held_of : D → Held) (image_of : D → List (List ℕ)) (old new : Alive D) (command request : Request) (asks : command ≡ request) where
  abbrev Told : Result Answer Refusal → Type 0
  Told reply = Replied (held_of old.device) (image_of old.device) old command reply (held_of new.device) (image_of new.device) new

  abbrev Does : Answered → List View → Type 0
  Does answer later = Answers (image_of old.device) old request answer (image_of new.device) new later

  abbrev May : Refusal → Type 0
  May r = MayRefuse (image_of old.device) old request r

  abbrev Since : List View → Type 0
  Since later = HeldMore old.kept.geometry (held_of old.device) (held_of new.device) later

  abbrev Flushes : Type 0
  Flushes = AreWrites old.kept.geometry (image_of old.device) (held_of old.device) (pending_of old.queue) (image_of new.device) (held_of new.device) (pending_of new.queue)

  abbrev Safely : Type 0
  Safely = GoesSafely (held_of old.device) (image_of old.device) old request (held_of new.device) (image_of new.device) new

  abbrev Stays : Type 0
  Stays = StaysSafe (held_of old.device) old (held_of new.device) new

  module _ {T : Type 0} (as_given : T → Answer) (as_answer : T → Answered) (stands_for : (t : T) → StandsFor (as_given t) (as_answer t)) where
    by_call : (outcome : Result T Refusal) (reply : Result Answer Refusal) → MatchResult outcome (λ t. reply ≡ Ok (as_given t)) (λ r. reply ≡ Err r)
        → IfOk outcome (λ t. (later : List View) × Since later × Does (as_answer t) later) → IfErr outcome (λ r. May r) → OnErr outcome (Flushes × (new.kept ≡ old.kept) × (new.holdings ≡ old.holdings) × Stays) → OnOk outcome Safely
        → Told reply
    by_call outcome reply told done refused left sound =
        subst (λ x. Replied (held_of old.device) (image_of old.device) old x reply (held_of new.device) (image_of new.device) new) (sym asks)
        (replied (held_of old.device) (held_of new.device) (image_of old.device) (image_of new.device) old new request as_given as_answer stands_for outcome reply told done refused left sound)

    -- the device holds what it held, and the call answers so
    still : (outcome : Result T Refusal) (reply : Result Answer Refusal) → MatchResult outcome (λ t. reply ≡ Ok (as_given t)) (λ r. reply ≡ Err r)
        → image_of new.device ≡ image_of old.device → held_of new.device ≡ held_of old.device
        → IfOk outcome (λ t. Does (as_answer t) []) → IfErr outcome (λ r. May r) → OnErr outcome ((new.queue ≡ old.queue) × (new.kept ≡ old.kept) × (new.holdings ≡ old.holdings)) → OnOk outcome Safely
        → Told reply
    still (Ok t) reply told same_image same_held done refused left sound =
        by_call (Ok t) reply told ([], held_nothing old.kept.geometry (held_of old.device) (held_of new.device) same_held, done) refused left sound
    still (Err r) reply told same_image same_held done refused left sound =
        by_call (Err r) reply told done refused (
          no_flushes (held_of old.device) (held_of new.device) (image_of old.device) (image_of new.device) old new same_image same_held left.0,
          left.1,
          left.2,
          λ safe. goes_still (held_of old.device) (held_of new.device) old new same_held left.0 (ap (λ (k : Kept). k.geometry) left.1) (ap held_by left.2) safe,
        ) sound

    -- a command that does not touch the device
    pub plain : (outcome : Result T Refusal) (reply : Result Answer Refusal) → MatchResult outcome (λ t. reply ≡ Ok (as_given t)) (λ r. reply ≡ Err r)
        → new.device ≡ old.device → IfOk outcome (λ t. honest old.device → Does (as_answer t) []) → IfErr outcome (λ r. honest old.device → May r) → OnErr outcome (new ≡ old) → OnOk outcome (honest old.device → Safely)
        → honest new.device → Told reply
    plain (Ok t) reply told same done refused left sound h =
        still (Ok t) reply told (ap image_of same) (ap held_of same) (done (subst honest same h)) refused left (sound (subst honest same h))
    plain (Err r) reply told same done refused left sound h =
        still (Err r) reply told (ap image_of same) (ap held_of same) done (refused (subst honest same h))
        (ap (λ (l : Alive D). l.queue) left, ap (λ (l : Alive D). l.kept) left, ap (λ (l : Alive D). l.holdings) left) sound

    -- one that reads it
    pub reading : (outcome : Result T Refusal) (reply : Result Answer Refusal) → MatchResult outcome (λ t. reply ≡ Ok (as_given t)) (λ r. reply ≡ Err r)
        → image_of new.device ≡ image_of old.device → held_of new.device ≡ held_of old.device
        → IfOk outcome (λ t. honest new.device → Does (as_answer t) []) → IfErr outcome (λ r. honest new.device → May r) → OnErr outcome ((new.queue ≡ old.queue) × (new.kept ≡ old.kept) × (new.holdings ≡ old.holdings)) → OnOk outcome (honest new.device → Safely)
        → honest new.device → Told reply
    reading (Ok t) reply told same_image same_held done refused left sound h = still (Ok t) reply told same_image same_held (done h) refused left (sound h)
    reading (Err r) reply told same_image same_held done refused left sound h = still (Err r) reply told same_image same_held done (refused h) left sound

    -- one that writes to it
    pub writing : (outcome : Result T Refusal) (reply : Result Answer Refusal) → MatchResult outcome (λ t. reply ≡ Ok (as_given t)) (λ r. reply ≡ Err r)
        → IfOk outcome (λ t. honest new.device → (later : List View) × Since later × Does (as_answer t) later) → IfErr outcome (λ r. honest new.device → May r)
        → OnErr outcome (honest new.device → Flushes) → new.kept ≡ old.kept → new.holdings ≡ old.holdings → OnOk outcome (honest new.device → Safely) → OnErr outcome (honest new.device → Stays)
        → honest new.device → Told reply
    writing (Ok t) reply told done refused flushes kept holdings sound stays h = by_call (Ok t) reply told (done h) refused flushes (sound h)
    writing (Err r) reply told done refused flushes kept holdings sound stays h = by_call (Err r) reply told done (refused h) (flushes h, kept, holdings, stays h) sound

  -- ---- where there is nothing to tell

  module _ {T : Type 0} where
    abbrev Nothing : Result T Refusal → Result Answer Refusal → Type 0
    Nothing outcome reply = MatchResult outcome (λ _. reply ≡ Ok Done) (λ r. reply ≡ Err r)

    pub plainly_done : (outcome : Result T Refusal) (reply : Result Answer Refusal) → Nothing outcome reply
        → new.device ≡ old.device → OnOk outcome (honest old.device → Does IsDone []) → IfErr outcome (λ r. honest old.device → May r) → OnErr outcome (new ≡ old) → OnOk outcome (honest old.device → Safely)
        → honest new.device → Told reply
    plainly_done (Ok t) reply told same done refused left sound = plain (λ (t : T). Done) (λ (t : T). IsDone) (λ t. refl) (Ok t) reply told same done refused left sound
    plainly_done (Err r) reply told same done refused left sound = plain (λ (t : T). Done) (λ (t : T). IsDone) (λ t. refl) (Err r) reply told same done refused left sound

    pub reading_done : (outcome : Result T Refusal) (reply : Result Answer Refusal) → Nothing outcome reply
        → image_of new.device ≡ image_of old.device → held_of new.device ≡ held_of old.device
        → OnOk outcome (honest new.device → Does IsDone []) → IfErr outcome (λ r. honest new.device → May r) → OnErr outcome ((new.queue ≡ old.queue) × (new.kept ≡ old.kept) × (new.holdings ≡ old.holdings)) → OnOk outcome (honest new.device → Safely)
        → honest new.device → Told reply
    reading_done (Ok t) reply told same_image same_held done refused left sound = reading (λ (t : T). Done) (λ (t : T). IsDone) (λ t. refl) (Ok t) reply told same_image same_held done refused left sound
    reading_done (Err r) reply told same_image same_held done refused left sound = reading (λ (t : T). Done) (λ (t : T). IsDone) (λ t. refl) (Err r) reply told same_image same_held done refused left sound

    pub writing_done : (outcome : Result T Refusal) (reply : Result Answer Refusal) → Nothing outcome reply
        → OnOk outcome (honest new.device → (later : List View) × Since later × Does IsDone later) → IfErr outcome (λ r. honest new.device → May r)
        → OnErr outcome (honest new.device → Flushes) → new.kept ≡ old.kept → new.holdings ≡ old.holdings → OnOk outcome (honest new.device → Safely) → OnErr outcome (honest new.device → Stays)
        → honest new.device → Told reply
    writing_done (Ok t) reply told done refused flushes kept holdings sound stays = writing (λ (t : T). Done) (λ (t : T). IsDone) (λ t. refl) (Ok t) reply told done refused flushes kept holdings sound stays
    writing_done (Err r) reply told done refused flushes kept holdings sound stays = writing (λ (t : T). Done) (λ (t : T). IsDone) (λ t. refl) (Err r) reply told done refused flushes kept holdings sound stays

pub on_err_always : {T : Type 0} (P : Type 0) (r : Result T Refusal) → P → OnErr r P
on_err_always P (Ok t) p = tt
on_err_always P (Err e) p = p

pub on_ok_always : {T : Type 0} (P : Type 0) (r : Result T Refusal) → P → OnOk r P
on_ok_always P (Ok t) p = p
on_ok_always P (Err e) p = tt

pub on_ok_whenever : {T : Type 0} (H P : Type 0) (r : Result T Refusal) → OnOk r P → OnOk r (H → P)
on_ok_whenever H P (Ok t) p = λ h. p
on_ok_whenever H P (Err e) p = p

-- what holds once it is done holds once that is answered
pub once_done : (P : Type 0) (outcome : Result (Unit {0}) Refusal) (reply : Result Answer Refusal) → MatchResult outcome (λ _. reply ≡ Ok Done) (λ refusal. reply ≡ Err refusal) → OnOk outcome P → IfOk reply (λ _. P)
once_done P (Ok t) reply is p = subst (λ (r : Result Answer Refusal). IfOk r (λ _. P)) (sym is) p
once_done P (Err e) reply is p = subst (λ (r : Result Answer Refusal). IfOk r (λ _. P)) (sym is) tt

-- what changes nothing takes no file from what is safe
pub stays_still : {D T : Type 0} (held held' : Held) (old new : Alive D) (H : Type 0) (r : Result T Refusal) → held' ≡ held → (new.queue ≡ old.queue) × (new.kept ≡ old.kept) × (new.holdings ≡ old.holdings)
    → OnOk r (H → StaysSafe held old held' new)
stays_still held held' old new H (Ok t) same left = λ h safe. goes_still held held' old new same left.0 (ap (λ (k : Kept). k.geometry) left.1) (ap held_by left.2) safe
stays_still held held' old new H (Err e) same left = tt

-- and what writes no record may look as it likes
pub sees_any : {D T : Type 0} (held held' : Held) (old new : Alive D) (H : Type 0) (views : List View) (r : Result T Refusal) → OnOk r (H → StaysSafe held old held' new)
    → OnOk r (H → (safe : ℕ → Bool) → GoesSoundly held old held' new safe safe [] views)
sees_any held held' old new H views (Ok t) stays = λ h safe. goes_seen held held' old new safe safe [] views (stays h safe)
sees_any held held' old new H views (Err e) stays = tt

-- a flush that is refused wrote nothing
pub unflushed : {D T : Type 0} (honest : D → Type 0) (held_of : D → Held) (image_of : D → List (List ℕ)) (old new : Alive D) (r : Result T Refusal)
    → OnErr r ((new.queue ≡ old.queue) × (image_of new.device ≡ image_of old.device) × (held_of new.device ≡ held_of old.device))
    → OnErr r (honest new.device → AreWrites old.kept.geometry (image_of old.device) (held_of old.device) (pending_of old.queue) (image_of new.device) (held_of new.device) (pending_of new.queue))
unflushed honest held_of image_of old new (Ok t) left = left
unflushed honest held_of image_of old new (Err e) left = λ h. no_flushes (held_of old.device) (held_of new.device) (image_of old.device) (image_of new.device) old new left.1 left.2 left.0

-- ---- a look at the volume

module _ {D : Type 0} (honest : D → Type 0) (held_of : D → Held) (image_of : D → List (List ℕ)) (live : Alive D) (command request : Request) (asks : command ≡ request)
    (quiet : IsTrue (is_quiet request)) (safely : (view : View) (safe : ℕ → Bool) → safe_after live.kept.geometry view request safe ≡ safe) where
  abbrev Shown : Answered → Type 0
  Shown answer = (beside : Beside) → Step live.kept.geometry (state_of (image_of live.device) live beside) request (Ok answer) (state_of (image_of live.device) live beside)

  look_answers : (answer : Answered) → Shown answer → Answers (image_of live.device) live request answer (image_of live.device) live []
  look_answers answer shown beside belongs =
      let geo = live.kept.geometry in
      let disk = disk_of (image_of live.device) live in
      let q = pending_of live.queue in
      let s = state_of (image_of live.device) live beside in
      record {
        geometry = refl;
        snapshots = refl;
        step = λ stands. shown beside;
        serves = λ safe stands. subst (λ safe'. Serves geo disk q s safe request answer disk q s safe' []) (sym (safely (users_view disk q) safe)) (Quietly request answer s quiet (shown beside).1);
      }

  look_safely : honest live.device → GoesSafely (held_of live.device) (image_of live.device) live request (held_of live.device) (image_of live.device) live
  look_safely h safe =
      let held = held_of live.device in
      let v = users_view (disk_of (image_of live.device) live) (pending_of live.queue) in
      subst (λ safe'. GoesSoundly held live held live safe safe' (pieces_of (opened_by live.holdings) request) (v ∷ v ∷ [])) (sym (safely v safe))
      (subst (λ pieces. GoesSoundly held live held live safe safe pieces (v ∷ v ∷ [])) (sym (quiet_asks (opened_by live.holdings) request quiet)) (goes_seen _ _ _ _ _ _ _ _ (goes_still held held live live refl refl refl refl safe)))

  module _ {T : Type 0} (as_given : T → Answer) (as_answer : T → Answered) (stands_for : (t : T) → StandsFor (as_given t) (as_answer t)) where
    pub looked : (outcome : Result T Refusal) (reply : Result Answer Refusal) → MatchResult outcome (λ t. reply ≡ Ok (as_given t)) (λ r. reply ≡ Err r)
        → IfOk outcome (λ t. honest live.device → Shown (as_answer t)) → IfErr outcome (λ r. honest live.device → MayRefuse (image_of live.device) live request r)
        → honest live.device → Replied (held_of live.device) (image_of live.device) live command reply (held_of live.device) (image_of live.device) live
    looked (Ok t) reply told done refused =
        plain honest held_of image_of live live command request asks as_given as_answer stands_for (Ok t) reply told refl (λ h. look_answers (as_answer t) (done h)) refused tt look_safely
    looked (Err r) reply told done refused =
        plain honest held_of image_of live live command request asks as_given as_answer stands_for (Err r) reply told refl done refused refl tt
