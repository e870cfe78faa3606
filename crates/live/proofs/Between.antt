-- A volume that is as it was, but for its device, which holds what it held.
use Rattle.std.proofs.Common.{◌≡◌, ◌∙◌, List, ℕ, ap, sym, subst}
use Rattle.ordering.specs.Cuts.{users_view}
use Rattle.model.specs.Image.{image_view}
use Rattle.model.specs.Layout.{Geometry}
use Rattle.model.specs.View.{View}
use Rattle.machine.specs.Command.{Answer, Command}
use Rattle.frozen.specs.Kept.{Kept}
use Rattle.softdep.specs.Queued.{Queued, pending_of}
use Rattle.live_states.specs.Holdings.{Beside, Holdings, AreImagesOf}
use Rattle.live_states.specs.Planned.{AreSeen, Seen}
use Rattle.live.specs.Alive.{Alive, Answers, AnswersBeside, disk_of}

-- what users see is told by these three
pub seen_same : (image image' : List (List ℕ)) (queue queue' : Queued) (geo geo' : Geometry) → image' ≡ image → queue' ≡ queue → geo' ≡ geo
    → users_view (image_view geo' image') (pending_of queue') ≡ users_view (image_view geo image) (pending_of queue)
seen_same image image' queue queue' geo geo' same_image same_queue same_geometry =
    ap (λ g. users_view (image_view g image') (pending_of queue')) same_geometry
    ∙ ap (λ i. users_view (image_view geo i) (pending_of queue')) same_image
    ∙ ap (λ q. users_view (image_view geo image) (pending_of q)) same_queue

module _ {D : Type 0} (image image' : List (List ℕ)) (old mid : Alive D) (same : image' ≡ image) (queue : mid.queue ≡ old.queue) (kept : mid.kept ≡ old.kept) (holdings : mid.holdings ≡ old.holdings) where
  -- users see the same bytes
  pub still_seen : (seen : List Seen) → AreSeen seen (users_view (disk_of image old) (pending_of old.queue)) → AreSeen seen (users_view (disk_of image' mid) (pending_of mid.queue))
  still_seen seen are =
      subst (λ i. AreSeen seen (users_view (image_view mid.kept.geometry i) (pending_of mid.queue))) (sym same)
      (subst (λ (q : Queued). AreSeen seen (users_view (image_view mid.kept.geometry image) (pending_of q))) (sym queue)
      (subst (λ (k : Kept). AreSeen seen (users_view (image_view k.geometry image) (pending_of old.queue))) (sym kept) are))

  -- what is answered then is answered before
  module _ (command : Command) (answer : Answer) (image'' : List (List ℕ)) (new : Alive D) (later : List View) (beside : Beside) where
    abbrev IsAnswered : List (List ℕ) → Queued → Kept → Holdings → Type 0
    IsAnswered i q k h = AnswersBeside beside i (record { device = old.device; queue = q; kept = k; holdings = h }) command answer image'' new later

    over_device : AnswersBeside beside image' mid command answer image'' new later → IsAnswered image' mid.queue mid.kept mid.holdings
    over_device a = record { geometry = a.geometry; snapshots = a.snapshots; step = a.step; serves = a.serves }

    answered_beside : AnswersBeside beside image' mid command answer image'' new later → AnswersBeside beside image old command answer image'' new later
    answered_beside a =
        subst (λ i. IsAnswered i old.queue old.kept old.holdings) same
        (subst (λ q. IsAnswered image' q old.kept old.holdings) queue
        (subst (λ k. IsAnswered image' mid.queue k old.holdings) kept
        (subst (λ h. IsAnswered image' mid.queue mid.kept h) holdings (over_device a))))

  pub answered : (command : Command) (answer : Answer) (image'' : List (List ℕ)) (new : Alive D) (later : List View) → Answers image' mid command answer image'' new later → Answers image old command answer image'' new later
  answered command answer image'' new later answers beside belongs =
      answered_beside command answer image'' new later beside (answers beside (subst (λ (h : Holdings). AreImagesOf h.snapshots beside.snapshots) (sym holdings) belongs))
