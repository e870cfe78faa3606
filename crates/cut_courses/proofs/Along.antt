-- What is durable goes along, and each closed cut of what is not is safe.
use Rattle.std.proofs.Common.{◌≡◌, ℕ, Bool, List, [], ◌∷◌, ◌++◌, refl, sym, ap, ap₂, ◌∙◌, subst, IsTrue, length}
use Rattle.model.specs.Layout.{Geometry}
use Rattle.model.specs.View.{View}
use Rattle.model.specs.Image.{block_at, image_view}
use Rattle.model.specs.Reach.{IsReachable}
use Rattle.ordering.specs.Cuts.{Pending, IsClosed, rest, seen, joined, users_view}
use Rattle.ordering.specs.Ghosts.{at_rest}
use Rattle.ordering.proofs.Flushes.{joined_closed, joined_seen, users_flushed}
use Rattle.machine.specs.State.{State}
use Rattle.plans_data.specs.Now.{now}
use Rattle.plans_data.specs.Release.{MayRelease, releasing}
use Rattle.queue_model.specs.Files.{Written, updates}
use Rattle.queue_model.specs.History.{none_of, skipping}
use Rattle.queue_model.specs.Course.{IsGood, Puts as CoursePuts, Rests}
use Rattle.queue_model.proofs.HistoryLemmas.{none_closed, none_seen, none_rest, skipping_closed, skipping_seen, skipping_rest, joined_rest, joined_holds}
use Rattle.queue_model.proofs.CourseLemmas.{course_good, good_safe}
use Rattle.device.specs.Media.{Medium, MayBeLeft, chosen}
use Rattle.power_cut.specs.Epochs.{IsEpoch, Put, together}
use Rattle.power_cut.specs.Standing.{AreWithin, writes_of}
use Rattle.power_cut.specs.Volumes.{Moment}
use Rattle.power_cut.proofs.EpochLemmas.{any_is_cut}
use Rattle.power_cut.proofs.ImageLemmas.{left_of_medium}
use Rattle.courses.specs.Leads.{IsMoment}
use Rattle.courses.specs.Plans.{IsPlan}
use Rattle.courses.specs.Life.{Life, Begins, Carries, Puts, Releases}
use Rattle.courses.proofs.LifeCourses.{life_lived, anew_moment}
use Rattle.cut_courses.specs.Durably.{IsDurably, IsSafelyShown}
use Rattle.cut_courses.proofs.Lifted.{lifted}

module _ (geo : Geometry) where
  -- with nothing loose
  pub answered : (mount : View) (h : List Written) (cut : List Bool) (disk : View) (q : List Pending) (held safe : ℕ → Bool) → IsMoment geo mount h cut (at_rest held safe) disk q → IsDurably geo disk q disk q held safe
  answered mount h cut disk q held safe moment = record {
    mount = mount;
    history = h;
    cut = cut;
    moment = moment;
    loose = none_of q;
    closed = none_closed q;
    answers = sym (none_seen disk q);
    pending = sym (none_rest q);
  }

  -- what a life of one step over it leads to
  pub stepped : (durable : View) (unsynced : List Pending) (held safe : ℕ → Bool) (mount : View) (h : List Written) (cut : List Bool) → IsMoment geo mount h cut (at_rest held safe) durable unsynced
      → (durable' : View) (unsynced' : List Pending) (held' safe' : ℕ → Bool) (images : List View) → Life geo durable unsynced held safe durable' unsynced' held' safe' images
      → (h' : List Written) × (cut' : List Bool) × IsMoment geo mount h' cut' (at_rest held' safe') durable' unsynced'
  stepped durable unsynced held safe mount h cut moment durable' unsynced' held' safe' images life =
      let lived = life_lived geo mount h cut durable unsynced held safe moment durable' unsynced' held' safe' images life in
      (lived.h', lived.cut', lived.moment)

  -- a closed cut of what is pending is written: the same was written since the same mount
  pub put_moment : (mount : View) (h : List Written) (cut : List Bool) (held safe : ℕ → Bool) (disk : View) (q : List Pending) → IsMoment geo mount h cut (at_rest held safe) disk q → (next : List Bool) → IsClosed q next
      → IsMoment geo mount h (joined (updates h) cut next) (at_rest held safe) (seen disk q next) (rest q next)
  put_moment mount h cut held safe disk q m next k =
      let us = updates h in
      let whole = joined us cut next in
      let closed : IsClosed (rest us cut) next = subst (λ p. IsClosed p next) (sym m.pending) k in
      record {
        good = (course_good geo mount h cut (at_rest held safe) h whole (seen mount us whole ∷ []) (at_rest held safe) (CoursePuts next Rests closed) m.good).0;
        device = joined_seen mount us cut next m.good.closed closed ∙ ap₂ (λ v p. seen v p next) m.device m.pending;
        pending = joined_rest us cut next m.good.closed closed ∙ ap (λ p. rest p next) m.pending;
      }

  module _ (durable : View) (unsynced : List Pending) (disk : View) (q : List Pending) (held safe : ℕ → Bool) (d : IsDurably geo durable unsynced disk q held safe) where
    -- users see the same over both
    pub users_same : users_view durable unsynced ≡ users_view disk q
    users_same = sym (users_flushed durable unsynced d.loose d.closed) ∙ sym (ap₂ users_view d.answers d.pending)

    pub written_durably : (cut : List Bool) → IsClosed q cut → IsDurably geo durable unsynced (seen disk q cut) (rest q cut) held safe
    written_durably cut k =
        let closed : IsClosed (rest unsynced d.loose) cut = subst (λ p. IsClosed p cut) d.pending k in
        record {
          mount = d.mount;
          history = d.history;
          cut = d.cut;
          moment = d.moment;
          loose = joined unsynced d.loose cut;
          closed = joined_closed unsynced d.loose cut d.closed closed;
          answers = ap₂ (λ v p. seen v p cut) d.answers d.pending ∙ sym (joined_seen durable unsynced d.loose cut d.closed closed);
          pending = ap (λ p. rest p cut) d.pending ∙ sym (joined_rest unsynced d.loose cut d.closed closed);
        }

    pub synced_durably : IsDurably geo disk q disk q held safe
    synced_durably =
        let next = stepped durable unsynced held safe d.mount d.history d.cut d.moment (seen durable unsynced d.loose) (rest unsynced d.loose) held safe (seen durable unsynced d.loose ∷ []) (Puts d.loose Begins d.closed) in
        answered d.mount next.0 next.1 disk q held safe
        (subst (λ v. IsMoment geo d.mount next.0 next.1 (at_rest held safe) v q) (sym d.answers) (subst (IsMoment geo d.mount next.0 next.1 (at_rest held safe) (seen durable unsynced d.loose)) (sym d.pending) next.2))

    -- ---- closed cuts

    pub cut_safely : (cut : List Bool) → IsClosed unsynced cut → IsSafelyShown geo durable unsynced d.mount d.history d.cut safe (seen durable unsynced cut)
    cut_safely cut k =
        let us = updates d.history in
        let good = d.moment.good in
        let closed : IsClosed (rest us d.cut) cut = subst (λ p. IsClosed p cut) (sym d.moment.pending) k in
        let whole = joined us d.cut cut in
        let since : seen durable unsynced cut ≡ seen d.mount us whole = sym (ap₂ (λ v p. seen v p cut) d.moment.device d.moment.pending) ∙ sym (joined_seen d.mount us d.cut cut good.closed closed) in
        let put : IsGood geo d.mount d.history whole (at_rest held safe)
        = (course_good geo d.mount d.history d.cut (at_rest held safe) d.history whole (seen d.mount us whole ∷ []) (at_rest held safe) (CoursePuts cut Rests closed) good).0 in
        record {
          some = cut;
          closed = k;
          shows = refl;
          whole = whole;
          since = since;
          holds = joined_holds us d.cut cut good.closed closed;
          safe_image = good_safe geo d.mount d.history whole (at_rest held safe) put;
        }

  -- ---- plans, and what begins with nothing left

  pub planned_durably : (durable : View) (unsynced : List Pending) (disk : View) (q : List Pending) (old : State) (safe : ℕ → Bool) → IsDurably geo durable unsynced disk q old.held safe
      → (file : ℕ) (p : List Pending) (held' safe' : ℕ → Bool) → IsPlan geo disk q old safe file p held' safe'
      → (us : List Pending) × (p ≡ us ++ q) × IsDurably geo durable (us ++ unsynced) disk p held' safe'
  planned_durably durable unsynced disk q old safe d file p held' safe' plan =
      let (us, on, over) = lifted geo disk q old safe durable unsynced (users_same durable unsynced disk q old.held safe d) file p held' safe' plan in
      let next = stepped durable unsynced old.held safe d.mount d.history d.cut d.moment durable (us ++ unsynced) held' safe' [] (Carries old file (us ++ unsynced) held' safe' Begins refl over) in (
        us,
        on,
        record {
          mount = d.mount;
          history = next.0;
          cut = next.1;
          moment = next.2;
          loose = skipping us d.loose;
          closed = skipping_closed us unsynced d.loose d.closed;
          answers = d.answers ∙ sym (skipping_seen durable us unsynced d.loose);
          pending = on ∙ ap (λ l. us ++ l) d.pending ∙ sym (skipping_rest us unsynced d.loose);
        },
      )

  pub released_durably : (disk : View) (old : State) (safe held' : ℕ → Bool) (blocks : List ℕ) → IsDurably geo disk [] disk [] old.held safe → MayRelease geo (now disk [] old) held' blocks
      → IsDurably geo disk (releasing blocks []) disk (releasing blocks []) held' safe
  released_durably disk old safe held' blocks d may =
      let next = stepped disk [] old.held safe d.mount d.history d.cut d.moment disk (releasing blocks []) held' safe [] (Releases old held' blocks Begins refl may) in
      answered d.mount next.0 next.1 disk (releasing blocks []) held' safe next.2

  pub anew_durably : (disk : View) (held safe more : ℕ → Bool) → IsDurably geo disk [] disk [] held safe → ((f : ℕ) → IsTrue (more f) → IsReachable geo disk f) → IsDurably geo disk [] disk [] held more
  anew_durably disk held safe more d reachable = answered d.mount d.history d.cut disk [] held more (anew_moment geo d.mount d.history d.cut held safe disk d.moment more reachable)

  -- ---- what a power cut leaves

  pub left_safely : (m : Medium) (unsynced : List Pending) (disk : View) (q : List Pending) (held safe : ℕ → Bool) (d : IsDurably geo (image_view geo m.durable) unsynced disk q held safe) (puts : List Put)
      → IsEpoch geo (image_view geo m.durable) unsynced puts → m.loose ≡ writes_of puts → AreWithin (length m.durable) puts → (image : List (List ℕ)) → MayBeLeft m image
      → IsSafelyShown geo (image_view geo m.durable) unsynced d.mount d.history d.cut safe (image_view geo image)
  left_safely m unsynced disk q held safe d puts epoch writes within image may =
      let moment : Moment = record { written = []; cut = []; durable = block_at m.durable; loose = puts; ghost = at_rest held safe } in
      let left = left_of_medium geo m moment image (record { durable = refl; loose = writes; within = within }) may in
      let any = any_is_cut geo (block_at m.durable) unsynced puts left.0 epoch in
      let cut = together unsynced (chosen puts left.0) in
      subst (IsSafelyShown geo (image_view geo m.durable) unsynced d.mount d.history d.cut safe) (sym (left.1 ∙ any.1)) (cut_safely (image_view geo m.durable) unsynced disk q held safe d cut any.0)
