-- A service shows in the blocks of files what users asked for.
use Rattle.std.proofs.Common.{◌≡◌, ℕ, Bool, List, [], ◌∷◌, ◌++◌, ◌⊎◌, inl, inr, refl, sym, subst, slice_index, reverse}
use Rattle.model.specs.Layout.{Geometry}
use Rattle.model.specs.View.{View}
use Rattle.ordering.specs.Cuts.{IsClosed, Cell, Pending, seen, rest}
use Rattle.queue_model.specs.Blocks.{home_of}
use Rattle.queue_model.specs.Files.{Written, generation, shown, IsFileBlock}
use Rattle.queue_model.specs.Sync.{Writes, WritesNone, WritesNext}
use Rattle.machine.specs.Snapshot.{held_still}
use Rattle.machine.specs.State.{State}
use Rattle.machine.specs.Command.{Command, Answer, Reply}
use Rattle.machine.specs.Causes.{Accepts}
use Rattle.plans_data.specs.Now.{now}
use Rattle.plans_data.specs.Carried.{Stands}
use Rattle.plans_data.specs.Lists.{let_go_below}
use Rattle.plans_data.proofs.Plans.{plan_release}
use Rattle.plans_naming.proofs.UnlinkLast.{now_is}
use Rattle.courses.specs.Bytes.{AsksWrite, IsOwnService, Recorded, WasWritten, IsOwnByte}
use Rattle.courses.specs.Life.{Life, Begins, Carries, Puts, Releases as EndsSnapshot, Wrote}
use Rattle.courses.specs.Serves.{Serves, ByPlan, Quietly, FlushesNone, FlushesSome, SyncsAll, Freezes, Releases, IsBeginning, Service, Starts, CarriesOut, Refuses, Flushed}
use Rattle.courses.proofs.BytesHeld.{life_shows}
use Rattle.courses.proofs.Doing.{steps}
use Rattle.courses.proofs.LifeCourses.{life_lived}
use Rattle.courses.proofs.ServiceLemmas.{service_safe, service_session}
use Rattle.courses.proofs.Serving.{one_before, quiet_keeps, session_stands, stores}
use Rattle.courses.proofs.LifeBytes.{AllLeave, WasPut}

module _ (geo : Geometry) (mounted : View) (h : List Written) (cut : List Bool) (disk0 : View) (q0 : List Pending) (old0 : State) (safe0 : ℕ → Bool) (begin : IsBeginning geo mounted h cut disk0 q0 old0 safe0) where
  -- a life whose plans leave what stands behind their pieces; whatever it wrote was recorded so, and its pieces are these
  abbrev Lives : (B : List Written → Type 0) → ((h' : List Written) → B h' → ℕ → ℕ → ℕ → List ℕ → Type 0) → View → List Pending → (ℕ → Bool) → (ℕ → Bool) → List View → Type 0
  Lives B A disk q held safe images =
      (life : Life geo disk0 q0 old0.held safe0 disk q held safe images) × AllLeave life
      × ((h' : List Written) (wrote : Wrote mounted h h' life) → (b : B h') × ((n g k : ℕ) (piece : List ℕ) → WasPut mounted h h' n g k piece life wrote → A h' b n g k piece))

  module _ (B : List Written → Type 0) (A : (h' : List Written) → B h' → ℕ → ℕ → ℕ → List ℕ → Type 0) where
    puts : (disk : View) (q : List Pending) (held safe : ℕ → Bool) (images : List View) (cut : List Bool) → IsClosed q cut → Lives B A disk q held safe images
        → Lives B A (seen disk q cut) (rest q cut) held safe (seen disk q cut ∷ images)
    puts disk q held safe images cut closed l = (Puts cut l.0 closed, l.1, l.2)

    writes : (home : Cell → ℕ) (disk : View) (q : List Pending) (blocks : List ℕ) (views : List View) (disk' : View) (q' : List Pending) → Writes home disk q blocks views disk' q' → (held safe : ℕ → Bool) (images : List View)
        → Lives B A disk q held safe images → Lives B A disk' q' held safe (reverse views ++ images)
    writes home disk q blocks views disk' q' WritesNone held safe images l = l
    writes home disk q blocks views disk' q' (WritesNext {blocks = others} {views = more} a cut closed of_block some after) held safe images l =
        let v = seen disk q cut in
        subst (λ x. Lives B A disk' q' held safe x) (one_before v more images)
        (writes home v (rest q cut) others more disk' q' after held safe (v ∷ images) (puts disk q held safe images cut closed l))

  -- of a service
  abbrev ServiceLives : {disk : View} {q : List Pending} {new : State} {safe : ℕ → Bool} {commands : List Command} {replies : List Reply} {images : List View} → Service geo disk0 q0 old0 safe0 disk q new safe commands replies images
      → View → List Pending → (ℕ → Bool) → (ℕ → Bool) → List View → Type 0
  ServiceLives service = Lives (λ h'. Recorded mounted h h' service) (λ h' b n g k piece. WasWritten mounted h h' n g k piece service b)

  module _ (disk : View) (q : List Pending) (old : State) (safe : ℕ → Bool) (commands : List Command) (replies : List Reply) (images : List View) (service : Service geo disk0 q0 old0 safe0 disk q old safe commands replies images) where
    stands : Stands geo disk q old safe
    stands = (service_safe geo mounted h cut disk0 q0 old0 safe0 begin disk q old safe commands replies images service).stands

    -- where nothing is recorded
    abbrev Nothing : Command → View → List Pending → (ℕ → Bool) → (ℕ → Bool) → List View → Type 0
    Nothing c = Lives (λ h'. (before : List Written) × Recorded mounted h before service × (h' ≡ before))
        (λ h' b n g k piece. WasWritten mounted h b.0 n g k piece service b.1 ⊎ (AsksWrite old c n k piece × (generation mounted b.0 n ≡ g)))

    nothing : (c : Command) → ServiceLives service disk q old.held safe images → Nothing c disk q old.held safe images
    nothing c l = (l.0, l.1, λ h' wrote. let r = l.2 h' wrote in ((h', r.0, refl), λ n g k piece w. inl (r.1 n g k piece w)))

    serving : (command : Command) (answer : Answer) (disk' : View) (q' : List Pending) (new : State) (safe' : ℕ → Bool) (later : List View) (accepts : Accepts geo old command) (serves : Serves geo disk q old safe command answer disk' q' new safe' later)
        → ServiceLives service disk q old.held safe images → ServiceLives (CarriesOut command answer disk' q' new safe' later service accepts serves) disk' q' new.held safe' (later ++ images)
    serving command answer disk' q' new safe' later accepts (ByPlan c a file plan n s done left) l =
        let is : now disk q old ≡ old = now_is disk q old stands.same in
        let t = steps geo disk q old safe (subst (λ x. Stands geo disk q x safe) (sym is) stands) c a file plan n s (subst (λ x. Accepts geo x c) (sym is) accepts) done in (
          Carries (now disk q old) file plan n.held s l.0 refl t.is_plan,
          (l.1, t.leaves left),
          λ h' wrote.
              let r = l.2 wrote.0 wrote.1 in (
                (wrote.0, r.0, wrote.2),
                λ m g k piece w. elim w [
                  | inl before ↦ inl (r.1 m g k piece before)
                  | inr here ↦ inr (subst (λ x. AsksWrite x c m k piece) is (t.asks m k piece here.0), here.1)
                ],
              ),
        )
    serving command answer disk' q' new safe' later accepts (Quietly c a n quiet effect) l = subst (λ x. Nothing c disk q x safe images) (sym (quiet_keeps geo old c a n quiet effect).1) (nothing c l)
    serving command answer disk' q' new safe' later accepts (FlushesNone a) l = nothing command l
    serving command answer disk' q' new safe' later accepts (FlushesSome a cut closed of_block some) l = puts _ _ disk q old.held safe images cut closed (nothing command l)
    serving command answer disk' q' new safe' later accepts (SyncsAll blocks views d all) l = writes _ _ (home_of geo) disk q blocks views d [] all old.held safe images (nothing command l)
    serving command answer disk' q' new safe' later accepts (Freezes blocks views d all) l = writes _ _ (home_of geo) disk q blocks views d [] all old.held safe images (nothing command l)
    serving command answer disk' q' new safe' later accepts (Releases r blocks views d n all few) l =
        let session = stores geo disk0 q0 old0 safe0 (home_of geo) disk q blocks views d [] all old safe commands replies images (service_session geo mounted h cut disk0 q0 old0 safe0 begin disk q old safe commands replies images service) in
        let s = session_stands geo mounted h cut disk0 q0 old0 safe0 begin d [] old safe commands replies _ session in
        let is : now d [] old ≡ old = now_is d [] old s.same in
        let t = subst (λ x. Stands geo d [] x safe) (sym is) s in
        let f = writes (λ h'. Recorded mounted h h' service) (λ h' b n g k piece. WasWritten mounted h h' n g k piece service b) (home_of geo) disk q blocks views d [] all old.held safe images l in (
          EndsSnapshot old (held_still old r) (let_go_below old r n) f.0 refl (plan_release geo t.geometry (now d [] old) t.balance r n few),
          f.1,
          λ h' wrote. let r = f.2 wrote.0 wrote.1 in ((wrote.0, r.0, wrote.2), λ m g k piece w. inl (r.1 m g k piece w)),
        )

  service_lives : (disk : View) (q : List Pending) (new : State) (safe : ℕ → Bool) (commands : List Command) (replies : List Reply) (images : List View) (service : Service geo disk0 q0 old0 safe0 disk q new safe commands replies images)
      → ServiceLives service disk q new.held safe images
  service_lives disk q new safe commands replies images Starts = (Begins, tt, λ h' wrote. (wrote, λ n g k piece w. w))
  service_lives disk q new safe cs rs im (CarriesOut {disk = d} {q = p} {old = old} {safe = s} {commands = commands} {replies = replies} {images = images} command answer d' p' new' s' later service accepts serves) =
      serving d p old s commands replies images service command answer d' p' new' s' later accepts serves (service_lives d p old s commands replies images service)
  service_lives disk q new safe cs rs im (Refuses {disk = d} {q = p} {old = old} {safe = s} {commands = commands} {replies = replies} {images = images} command r service step) = service_lives d p old s commands replies images service
  service_lives disk q new safe cs rs im (Flushed {disk = d} {q = p} {old = old} {safe = s} {commands = commands} {replies = replies} {images = images} a put service closed of_block) =
      puts _ _ d p old.held s images put closed (service_lives d p old s commands replies images service)

  pub service_owns : (disk : View) (q : List Pending) (new : State) (safe : ℕ → Bool) (commands : List Command) (replies : List Reply) (images : List View) (service : Service geo disk0 q0 old0 safe0 disk q new safe commands replies images)
      → IsOwnService mounted h cut service
  service_owns disk q new safe commands replies images service =
      let l = service_lives disk q new safe commands replies images service in
      let lived = life_lived geo mounted h cut disk0 q0 old0.held safe0 begin.moment disk q new.held safe images l.0 in
      let r = l.2 lived.h' lived.wrote in
      let W : ℕ → ℕ → ℕ → List ℕ → Type 0 = λ n g k piece. WasWritten mounted h lived.h' n g k piece service r.0 in
      record {
        h' = lived.h';
        recorded = r.0;
        own = λ image there.
            let one = life_shows geo mounted h cut W disk0 q0 old0.held safe0 begin.moment disk q new.held safe images l.0 l.1 lived r.1 image there in
            record {
              less = one.0;
              shows = one.1;
              closed = one.2;
              own = λ n k a j f. subst (λ v. IsOwnByte mounted h cut lived.h' service r.0 n (shown mounted lived.h' one.0 n) k j (slice_index (v.bytes a) j)) (sym one.1)
                  (one.3 n k a (subst (λ v. IsFileBlock geo v n k a) one.1 f) j);
            };
      }
