-- Sessions of a desk that is read alone.
use Rattle.std.proofs.Common.{◌≡◌, ℕ, List, [], ◌∷◌, ◌++◌, refl, sym, subst, ◌∙◌}
use Rattle.device.proofs.ReadingLemmas.{reads_on}
use Rattle.device.specs.Media.{Held}
use Rattle.device.specs.Writes.{HasFailed}
use Rattle.frozen.specs.Kept.{IsKeptOf, Kept}
use Rattle.fuse_loop.specs.declared.LeftError.{LeftError}
use Rattle.fuse_loop.specs.Sessions.{Answered, EndsAt, Leaves, NotGiven, NotTurned, Start, Step, Untouched}
use Rattle.fuse_loop.specs.Viewed.{AllViewed, FailsViewed, NextViewed, NoneViewed, StaysViewed, TurnsViewed, Views}
use Rattle.fuse_reader.specs.Desks.{AtDesk, IsTurn}

module _ {D : Type 0} (honest : D → Type 0) (image_of : D → List (List ℕ)) (held_of : D → Held) (failures : D → ℕ) where
  stays_itself : (desk : AtDesk D) → StaysViewed honest image_of held_of desk desk
  stays_itself desk = record { kept = refl; owner = refl; reads = record { same = refl; held = refl; honest = λ h. h } }

  stays_on : (old mid new : AtDesk D) → StaysViewed honest image_of held_of old mid → Views honest image_of held_of failures mid new → StaysViewed honest image_of held_of old new
  stays_on old mid new stays views = record {
    kept = views.kept ∙ stays.kept;
    owner = views.owner ∙ stays.owner;
    reads = reads_on stays.reads views.reads;
  }

  pub stays_viewed : (old new : AtDesk D) (messages replies : List (List ℕ)) → Answered (TurnsViewed honest image_of held_of failures) old messages replies new
      → StaysViewed honest image_of held_of old new
  stays_viewed old _ _ _ Start = stays_itself old
  stays_viewed old new _ _ (Step messages replies mid _ message given before here) = stays_on old mid new (stays_viewed old mid messages replies before) here.turn.views

  pub all_viewed : (old new : AtDesk D) (messages replies : List (List ℕ)) → Answered (TurnsViewed honest image_of held_of failures) old messages replies new
      → honest new.device → IsKeptOf old.kept (image_of old.device)
      → AllViewed old.kept (image_of old.device) old.owner old.nodes (failures old.device) messages replies new.nodes (failures new.device)
  all_viewed old _ _ _ Start h is = NoneViewed
  all_viewed old new _ _ (Step messages replies mid _ message given before here) h is =
      let stays : StaysViewed honest image_of held_of old mid = stays_viewed old mid messages replies before in
      let kept : IsKeptOf mid.kept (image_of mid.device) =
      subst (λ k. IsKeptOf k (image_of mid.device)) (sym stays.kept) (subst (IsKeptOf old.kept) (sym stays.reads.same) is) in
      let turn : IsTurn mid.kept (image_of mid.device) mid.owner mid.nodes here.head here.asked (HasFailed (failures mid.device) (failures new.device)) here.reply new.nodes =
      here.turn.turn here.head here.asked here.read h kept in
      NextViewed messages replies mid.nodes new.nodes (failures mid.device) (failures new.device) message given
      (all_viewed old mid messages replies before (here.turn.views.reads.honest h) is)
      record {
        head = here.head;
        asked = here.asked;
        reply = here.reply;
        read = here.read;
        turn =
            subst (λ k. IsTurn k (image_of old.device) old.owner mid.nodes here.head here.asked (HasFailed (failures mid.device) (failures new.device)) here.reply new.nodes) stays.kept
            (subst (λ i. IsTurn mid.kept i old.owner mid.nodes here.head here.asked (HasFailed (failures mid.device) (failures new.device)) here.reply new.nodes) stays.reads.same
            (subst (λ o. IsTurn mid.kept (image_of mid.device) o mid.nodes here.head here.asked (HasFailed (failures mid.device) (failures new.device)) here.reply new.nodes) stays.owner turn));
        failures = here.turn.views.failed;
        gives = here.gives;
      }

  ends_viewed : (old mid new : AtDesk D) (rest : List (List ℕ)) → StaysViewed honest image_of held_of old mid
      → EndsAt (TurnsViewed honest image_of held_of failures) (FailsViewed honest image_of held_of failures) mid rest new → StaysViewed honest image_of held_of old new
  ends_viewed old mid _ _ stays (Untouched rest) = stays
  ends_viewed old mid new _ stays (NotGiven message reply turned _ turn) = stays_on old mid new stays turn.views
  ends_viewed old mid new _ stays (NotTurned message _ fails) = stays_on old mid new stays fails.views

  pub leaves_viewed : (old new : AtDesk D) (taken given new_taken new_given : List (List ℕ)) (why : LeftError)
      → Leaves (TurnsViewed honest image_of held_of failures) (FailsViewed honest image_of held_of failures) old taken given new_taken new_given why new
      → StaysViewed honest image_of held_of old new
  leaves_viewed old new taken given new_taken new_given why leaves =
      ends_viewed old leaves.mid new leaves.rest (stays_viewed old leaves.mid leaves.serves.messages leaves.serves.replies leaves.serves.answered) leaves.ends
