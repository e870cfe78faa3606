-- What a volume goes through by a command, and by commands one after another.
use Rattle.std.proofs.Common.{◌≡◌, ◌<◌, ◌+◌, ℕ, List, [], ◌∷◌, ◌++◌, map, take, length, get_or, Ok, Err, Result, IfErr, IfOk, MatchResult, OnOk, refl, sym, ap, ◌∙◌, subst}
use Rattle.std.specs.List.{AllZip}
use Rattle.std.proofs.lemmas.List.{map-append, take_more}
use Rattle.layout.specs.declared.refusal.Refusal.{Refusal}
use Rattle.model.specs.View.{View}
use Rattle.device.specs.Media.{Held}
use Rattle.machine.specs.Command.{Answer as Answered, Command as Request, Done as IsDone, Freeze, Image as IsImage, Release, Reply as Response}
use Rattle.machine.specs.Snapshot.{settled}
use Rattle.machine.specs.Standing.{begun as more, ended as fewer}
use Rattle.frozen.specs.Kept.{Kept}
use Rattle.courses.specs.Serves.{Starts}
use Rattle.metadata.specs.Shown.{Shows}
use Rattle.live_states.specs.Holdings.{Beside}
use Rattle.live.specs.Alive.{Alive, state_of}
use Rattle.snapshot.specs.declared.answer.Answer.{Answer}
use Rattle.snapshot.specs.declared.answer.Answer.TheVariants.{Done}
use Rattle.snapshot.specs.declared.command.Command.{Command}
use Rattle.snapshot.specs.Asked.{IsReply, StandsFor, asked}
use Rattle.snapshot.specs.Goes.{Applies, Freezes, Goes, IsBeside, Releases, Replies, Runs}
use Rattle.live.proofs.Durably.{goes_still}
use Rattle.snapshot.proofs.Going.{held_nothing}
use Rattle.snapshot.proofs.Joining.{joined}

-- ---- one command

module _ {D : Type 0} (honest : D → Type 0) (held_of : D → Held) (image_of : D → List (List ℕ)) (old new : Alive D) (command request : Request) (asks : command ≡ request) where
  abbrev Told : Result Answer Refusal → Type 0
  Told reply = Applies (held_of old.device) (image_of old.device) old command reply (held_of new.device) (image_of new.device) new

  abbrev Did : Response → Type 0
  Did response = Replies (held_of old.device) (image_of old.device) old request response (held_of new.device) (image_of new.device) new

  by_request : (told reply : Result Answer Refusal) → reply ≡ told → Applies (held_of old.device) (image_of old.device) old request told (held_of new.device) (image_of new.device) new → Told reply
  by_request told reply is applied =
      subst (λ x. Applies (held_of old.device) (image_of old.device) old x reply (held_of new.device) (image_of new.device) new) (sym asks)
      (subst (λ x. Applies (held_of old.device) (image_of old.device) old request x (held_of new.device) (image_of new.device) new) (sym is) applied)

  refuses : (r : Refusal) (reply : Result Answer Refusal) → reply ≡ Err r → Did (Err r) → Told reply
  refuses r reply is goes = by_request (Err r) reply is (λ beside stands. (beside, Err r, refl, goes beside stands))

  -- what stands beside the volume stays
  module _ {T : Type 0} (as_given : T → Answer) (as_answer : T → Answered) (stands_for : (t : T) → StandsFor (as_given t) (as_answer t)) where
    pub stays : (outcome : Result T Refusal) (reply : Result Answer Refusal) → MatchResult outcome (λ t. reply ≡ Ok (as_given t)) (λ r. reply ≡ Err r)
        → IfOk outcome (λ t. honest new.device → Did (Ok (as_answer t))) → IfErr outcome (λ r. honest new.device → Did (Err r)) → honest new.device → Told reply
    stays (Ok t) reply told done refused h = by_request (Ok (as_given t)) reply told (λ beside stands. (beside, Ok (as_answer t), stands_for t, done h beside stands))
    stays (Err r) reply told done refused h = refuses r reply told (refused h)

  module _ {T : Type 0} where
    pub stays_done : (outcome : Result T Refusal) (reply : Result Answer Refusal) → MatchResult outcome (λ _. reply ≡ Ok Done) (λ r. reply ≡ Err r)
        → OnOk outcome (honest new.device → Did (Ok IsDone)) → IfErr outcome (λ r. honest new.device → Did (Err r)) → honest new.device → Told reply
    stays_done (Ok t) reply told done refused h = by_request (Ok Done) reply told (λ beside stands. (beside, Ok IsDone, refl, done h beside stands))
    stays_done (Err r) reply told done refused h = refuses r reply told (refused h)

-- a snapshot begins
pub freezing : {D T : Type 0} (as_given : T → Answer) (number_of : T → ℕ) (kept_of : T → Kept) (stands_for : (t : T) (view : View) → Shows (kept_of t) view → StandsFor (as_given t) (IsImage (number_of t) view))
    (honest : D → Type 0) (held_of : D → Held) (image_of : D → List (List ℕ)) (old new : Alive D) (command : Request) → command ≡ Freeze
    → (outcome : Result T Refusal) (reply : Result Answer Refusal) → MatchResult outcome (λ t. reply ≡ Ok (as_given t)) (λ r. reply ≡ Err r)
    → IfOk outcome (λ t. honest new.device → Freezes (held_of old.device) (image_of old.device) old (number_of t) (kept_of t) (held_of new.device) (image_of new.device) new)
    → IfErr outcome (λ r. honest new.device → Replies (held_of old.device) (image_of old.device) old Freeze (Err r) (held_of new.device) (image_of new.device) new)
    → honest new.device → Applies (held_of old.device) (image_of old.device) old command reply (held_of new.device) (image_of new.device) new
freezing as_given number_of kept_of stands_for honest held_of image_of old new command asks (Ok t) reply told done refused h =
    by_request honest held_of image_of old new command Freeze asks (Ok (as_given t)) reply told
    (λ beside is.
    let begun = done h beside is in
    let image = settled old.kept.geometry (state_of (image_of old.device) old beside) in
    (record { snapshots = more beside.snapshots image }, Ok (IsImage (number_of t) image), stands_for t image begun.1, begun.2))
freezing as_given number_of kept_of stands_for honest held_of image_of old new command asks (Err r) reply told done refused h =
    refuses honest held_of image_of old new command Freeze asks r reply told (refused h)

-- and ends
pub releasing : {D T : Type 0} (honest : D → Type 0) (held_of : D → Held) (image_of : D → List (List ℕ)) (old new : Alive D) (command : Request) (s : ℕ) → command ≡ Release s
    → (outcome : Result T Refusal) (reply : Result Answer Refusal) → MatchResult outcome (λ _. reply ≡ Ok Done) (λ r. reply ≡ Err r)
    → OnOk outcome (honest new.device → Releases (held_of old.device) (image_of old.device) old s (held_of new.device) (image_of new.device) new)
    → IfErr outcome (λ r. honest new.device → Replies (held_of old.device) (image_of old.device) old (Release s) (Err r) (held_of new.device) (image_of new.device) new)
    → honest new.device → Applies (held_of old.device) (image_of old.device) old command reply (held_of new.device) (image_of new.device) new
releasing honest held_of image_of old new command s asks (Ok t) reply told done refused h =
    by_request honest held_of image_of old new command (Release s) asks (Ok Done) reply told (λ beside is. (record { snapshots = fewer beside.snapshots s }, Ok IsDone, refl, done h beside is))
releasing honest held_of image_of old new command s asks (Err r) reply told done refused h = refuses honest held_of image_of old new command (Release s) asks r reply told (refused h)

-- ---- one after another

pub zip_push : {A B : Type 0} (R : A → B → Type 0) (xs : List A) (ys : List B) (x : A) (y : B) → AllZip R xs ys → R x y → AllZip R (xs ++ x ∷ []) (ys ++ y ∷ [])
zip_push R [] [] x y all here = (here, tt)
zip_push R (a ∷ xs) (b ∷ ys) x y all here = (all.0, zip_push R xs ys x y all.1 here)
zip_push R [] (b ∷ ys) x y all here = absurd all
zip_push R (a ∷ xs) [] x y all here = absurd all

module _ {D : Type 0} (held held' held'' : Held) (image image' image'' : List (List ℕ)) (old mid new : Alive D) where
  -- after some commands, another one
  pub runs_on : (commands : List Command) (replies : List (Result Answer Refusal)) (command : Command) (reply : Result Answer Refusal)
      → Runs held image old (map (asked old.kept.geometry) commands) replies held' image' mid
      → Applies held' image' mid (asked mid.kept.geometry command) reply held'' image'' new
      → Runs held image old (map (asked old.kept.geometry) (commands ++ command ∷ [])) (replies ++ reply ∷ []) held'' image'' new
  runs_on commands replies command reply ran applied beside is =
      let geo = old.kept.geometry in
      let first = ran beside is in
      let last = applied first.0 first.3.is in
      let goes = subst (λ g. Goes first.0 held' image' mid (asked g command ∷ []) (last.1 ∷ []) last.0 held'' image'' new) first.3.geometry last.3 in (
        last.0,
        first.1 ++ last.1 ∷ [],
        zip_push IsReply replies first.1 reply last.1 first.2 last.2,
        subst (λ cs. Goes beside held image old cs (first.1 ++ last.1 ∷ []) last.0 held'' image'' new) (sym (map-append (asked geo) commands (command ∷ [])))
            (joined beside first.0 last.0 held held' held'' image image' image'' old mid new (map (asked geo) commands) (asked geo command ∷ []) first.1 (last.1 ∷ []) first.3 goes),
      )

  -- the next one of a list
  pub runs_next : (items shown : List Command) → shown ≡ items → (i : ℕ) (command : Command) → i < length shown → command ≡ get_or shown i command
      → (replies replies' : List (Result Answer Refusal)) (reply : Result Answer Refusal) → replies' ≡ replies ++ reply ∷ []
      → Runs held image old (map (asked old.kept.geometry) (take i items)) replies held' image' mid
      → Applies held' image' mid (asked mid.kept.geometry command) reply held'' image'' new
      → Runs held image old (map (asked old.kept.geometry) (take (i + 1) items)) replies' held'' image'' new
  runs_next items shown same i command within at replies replies' reply pushed ran applied =
      let more : take (i + 1) items ≡ take i items ++ command ∷ [] =
      take_more items i command (subst (λ xs. i < length xs) same within) ∙ ap (λ x. take i items ++ x ∷ []) (sym (subst (λ xs. command ≡ get_or xs i command) same at)) in
      subst (λ rs. Runs held image old (map (asked old.kept.geometry) (take (i + 1) items)) rs held'' image'' new) (sym pushed)
      (subst (λ cs. Runs held image old (map (asked old.kept.geometry) cs) (replies ++ reply ∷ []) held'' image'' new) (sym more)
      (runs_on (take i items) replies command reply ran applied))

-- and before the first one
module _ {D : Type 0} (held : Held) (image : List (List ℕ)) (live : Alive D) where
  pub goes_nowhere : (beside : Beside) → IsBeside image live beside → Goes beside held image live [] [] beside held image live
  goes_nowhere beside is = record {
    geometry = refl;
    is = is;
    run = refl;
    later = [];
    since = held_nothing live.kept.geometry held held refl;
    service = λ mount h cut safe begin. (safe, Starts, goes_still held held live live refl refl refl refl safe);
  }

  pub runs_none : (items : List Command) (replies : List (Result Answer Refusal)) → replies ≡ [] → Runs held image live (map (asked live.kept.geometry) (take 0 items)) replies held image live
  runs_none items replies none = subst (λ rs. Runs held image live (map (asked live.kept.geometry) (take 0 items)) rs held image live) (sym none) (by items)
    where
      by : (items : List Command) → Runs held image live (map (asked live.kept.geometry) (take 0 items)) [] held image live
      by [] beside is = (beside, [], tt, goes_nowhere beside is)
      by (command ∷ commands) beside is = (beside, [], tt, goes_nowhere beside is)
