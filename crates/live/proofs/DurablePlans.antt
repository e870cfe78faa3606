-- A plan that is issued leaves a volume sound on its medium, which stays as it is.
use Rattle.std.proofs.Common.{◌≡◌, ◌≤◌, ℕ, Bool, List, [], ◌∷◌, ◌++◌, Contains, append-nil, arith, drop, inl, inr, map, refl, slice_index_or, sym, ap, ◌∙◌, subst, IsSome, IsTrue, Ok, length, ap₂}
use Rattle.std.specs.List.{All}
use Rattle.std.proofs.lemmas.Bool.{and_parts}
use Rattle.std.proofs.lemmas.List.Elements.{All-cons, All-nil, All-weaker}
use Rattle.model.specs.Cells.{SetBlock, SetBytes, SetInode, SetNumber, Update as Cells}
use Rattle.model.specs.Image.{image_view}
use Rattle.model.specs.Layout.{Geometry}
use Rattle.model.specs.View.{View, Inode}
use Rattle.device.specs.Media.{Held, Medium, image_of}
use Rattle.ordering.specs.Agrees.{AllAgree}
use Rattle.ordering.specs.Cuts.{Pending, rest, seen, users_view}
use Rattle.ordering.specs.Ghosts.{at_rest}
use Rattle.machine.specs.Balance.{Balance}
use Rattle.machine.specs.Causes.{Accepts}
use Rattle.machine.specs.Command.{Answer, Command, Done, Release, Unlink, Write}
use Rattle.machine.specs.Snapshot.{held_still, released}
use Rattle.machine.specs.Standing.{image_at}
use Rattle.plans_data.specs.Lists.{let_go_below}
use Rattle.plans_data.specs.Release.{releasing}
use Rattle.plans_data.proofs.Plans.{plan_release}
use Rattle.queue_model.specs.Sync.{WritesNone}
use Rattle.machine.specs.State.{State}
use Rattle.queue_model.specs.Files.{Written, updates}
use Rattle.courses.specs.Bytes.{AsksWrite}
use Rattle.courses.specs.Done.{IsDoneBy, LeavesTheRest}
use Rattle.courses.specs.Leads.{IsMoment, Named, Before, More}
use Rattle.courses.specs.Life.{Begins, Carries, IsLived, Releases as EndsSnapshot}
use Rattle.courses.specs.Serves.{CarriesOut, IsBeginning, IsSafeService, Releases, Starts}
use Rattle.courses.proofs.Doing.{Steps, steps}
use Rattle.courses.proofs.LifeCourses.{life_lived}
use Rattle.courses.proofs.ServiceLemmas.{plan_safe, service_safe}
use Rattle.courses.proofs.Looking.{Behind, Here, LooksAre, Then, WritesNoRecord, each_looking, plan_looking, released as releases_blocks}
use Rattle.cut_courses.specs.Durably.{IsDurably}
use Rattle.cut_courses.proofs.Along.{users_same}
use Rattle.frozen.specs.Kept.{Kept, KeepsMetadata}
use Rattle.metadata.specs.declared.staged.Staged.{Staged}
use Rattle.metadata.specs.Staged.{IsStaged, changes}
use Rattle.metadata.specs.Shown.{Shows}
use Rattle.updates.specs.Values.{written}
use Rattle.updates.specs.declared.change.Update.{Update}
use Rattle.softdep.specs.OnMedium.{IsOnMedium}
use Rattle.softdep.specs.Queued.{Queued, AreClosed, added, issued, pending_of, unsynced_of}
use Rattle.softdep.proofs.Mediums.{answers_view, on_issued}
use Rattle.softdep.proofs.Queues.{closed_issued, geometry_issued, pending_rest, unsynced_issued}
use Rattle.live_states.specs.Drafts.{Draft, over}
use Rattle.live_states.specs.Holdings.{Holdings, Has, held_by, opened_by}
use Rattle.live_states.specs.Planned.{AreSeen, IsPlannedFor, IsPlannedWith, Seen, safe_after}
use Rattle.live_states.specs.Volume.{IsVolume, state_over}
use Rattle.live_states.specs.Snapshots.{let_go, let_go_blocks}
use Rattle.live_states.proofs.SnapshotEnds.{accepts, cleared, few, held_after}
use Rattle.live_states.proofs.Planning.{leaves, planned_with}
use Rattle.live_states.proofs.Standing.{has}
use Rattle.live.specs.Alive.{Alive}
use Rattle.live.specs.Durable.{GoesSoundly, WritesLooksOf, IsSound, IsSoundOn, LeavesShown, Owns, Piece, Put, PutAlong, Starts, pieces_of}
use Rattle.live.proofs.Durably.{Since, base, held_nothing, owned}
use Rattle.live.proofs.Owning.{OwnsWith, along_written, plan_owns, release_owns}

-- what was written by a plan is what was written before it, and more
named_more : (geo : Geometry) (mount : View) (file : ℕ) (h : List Written) (q : List Pending) (h' : List Written) (p : List Pending) → Named geo mount file h q h' p → (added : List Written) × (h' ≡ added ++ h)
named_more geo mount file h q h' p Before = ([], refl)
named_more geo mount file h q h' p (More {h' = before} {p = r} u named names) =
    let one = named_more geo mount file h q before r named in
    (record { update = u; file = file } ∷ one.0, ap (λ l. record { update = u; file = file } ∷ l) one.1)

named_long : (geo : Geometry) (mount : View) (file : ℕ) (h : List Written) (q : List Pending) (h' : List Written) (p : List Pending) → Named geo mount file h q h' p → length q ≤ length p
named_long geo mount file h q h' p Before = omega arith
named_long geo mount file h q h' p (More {h' = before} {p = r} u named names) = let one = named_long geo mount file h q before r named in omega (arith, one)

-- and if each update of the plan is such a one, each of what was written by it is
named_each : (Is : Cells → Type 0) (geo : Geometry) (mount : View) (file : ℕ) (h : List Written) (q : List Pending) (h' : List Written) (p p' : List Pending) (named : Named geo mount file h q h' p) → Behind Is q p' → p' ≡ p
    → All (λ (w : Written). Is w.update.change) (named_more geo mount file h q h' p named).0
unfolding named_more
named_each Is geo mount file h q h' p p' Before behind same = All-nil (λ (w : Written). Is w.update.change)
named_each Is geo mount file h q h' p p' (More {h' = before} {p = r} u named names) Here same =
    let low = named_long geo mount file h q before r named in let long = ap length same in absurd (omega (arith, low, long))
named_each Is geo mount file h q h' p p' (More {h' = before} {p = r} u named names) (Then {p = s} u' behind is) same =
    let one = named_more geo mount file h q before r named in
    All-cons (λ (w : Written). Is w.update.change) (record { update = u; file = file }) one.0 (subst (λ (x : Pending). Is x.change) (ap (λ l. slice_index_or l 0 u) same) is)
    (named_each Is geo mount file h q before r s named behind (ap (drop 1) same))

-- each record has a size of one of the two views
looks_in : (v w : View) (u : Written) → LooksAre v w u.update.change → WritesLooksOf (w ∷ v ∷ []) u
looks_in v w u is n x same = elim (subst (LooksAre v w) same is) [
  | inl before ↦ (v, (1, omega arith, refl), before)
  | inr then ↦ (w, (0, omega arith, refl), then)
]

none_looking : (u : Written) → WritesNoRecord u.update.change → WritesLooksOf [] u
none_looking u is n x same = absurd (subst WritesNoRecord same is)

-- An issue that leads to such a moment over what is durable; and where files have their own bytes then, they have them since.
pub issued_since : (m : Medium) (geo : Geometry) (queue : Queued) (held held' safe safe' : ℕ → Bool) (s : IsSound m geo queue held safe) (queue' : Queued) (ws : List Written) → queue' ≡ issued queue ws → (h' : List Written) (cut' : List Bool)
    → IsMoment geo s.durably.mount h' cut' (at_rest held' safe') (image_view geo m.durable) (unsynced_of queue') → ((f : ℕ) → IsTrue (safe' f) → ((users_view (image_view geo m.durable) (unsynced_of queue')).inode f).mode ≡ 1)
    → (asked : List Piece) → ((puts : List Put) → Owns geo s.durably.mount s.durably.history s.durably.cut puts → OwnsWith geo s.durably.mount s.durably.history h' cut' asked puts)
    → Since (base s) asked s.durably.mount h' m geo queue' held' safe'
issued_since m geo queue held held' safe safe' s queue' ws is h' cut' moment files asked own =
    let on' = subst (λ w. IsOnMedium s.mounted w m) (sym is) (on_issued s.mounted queue m ws s.on) in
    let closed' = subst AreClosed (sym is) (closed_issued queue ws s.closed) in
    let geometry' = ap (λ (w : Queued). w.geometry) is ∙ geometry_issued queue ws ∙ s.geometry in
    let disk = image_view geo (image_of m) in
    let durably' : (d : IsDurably geo (image_view geo m.durable) (unsynced_of queue') disk (pending_of queue') held' safe') × (d.mount ≡ s.durably.mount) × (d.history ≡ h')
    × ((puts : List Put) → Owns geo s.durably.mount s.durably.history s.durably.cut puts → OwnsWith geo d.mount s.durably.history d.history d.cut asked puts) = (
      record {
        mount = s.durably.mount;
        history = h';
        cut = cut';
        moment = moment;
        loose = queue'.loose;
        closed = closed'.loose;
        answers = subst (λ x. image_view x (image_of m) ≡ seen (image_view x m.durable) (unsynced_of queue') queue'.loose) geometry' (answers_view s.mounted queue' m on');
        pending = pending_rest queue' closed';
      },
      refl,
      refl,
      own,
    ) in
    record {
      sound = record {
        geometry = geometry';
        closed = closed';
        durably = durably'.0;
        files = λ f t. ap (λ (v : View). (v.inode f).mode) (sym (users_same geo (image_view geo m.durable) (unsynced_of queue') disk (pending_of queue') held' safe' durably'.0)) ∙ files f t;
        mounted = s.mounted;
        on = on';
      };
      mount = durably'.1;
      history = durably'.2;
      owns = durably'.3;
    }

module _ (m : Medium) (kept : Kept) (holdings : Holdings) (queue : Queued) (safe : ℕ → Bool) (s : IsSound m kept.geometry queue (held_by holdings) safe)
    (volume : IsVolume kept holdings (pending_of queue) (image_view kept.geometry (image_of m))) where
  abbrev geo : Geometry
  geo = kept.geometry

  abbrev D : View
  D = image_view kept.geometry m.durable

  abbrev U : List Pending
  U = unsynced_of queue

  abbrev disk : View
  disk = image_view kept.geometry (image_of m)

  e : users_view (image_view kept.geometry m.durable) (unsynced_of queue) ≡ users_view (image_view kept.geometry (image_of m)) (pending_of queue)
  e = users_same geo D U disk (pending_of queue) (held_by holdings) safe s.durably

  -- over what is durable the volume stands as over what the device answers
  abbrev old : State
  old = state_over D U holdings volume.beside

  agree : AllAgree kept.geometry (image_view kept.geometry m.durable) (unsynced_of queue) (at_rest (held_by holdings) safe)
  agree =
      let moment = s.durably.moment in
      subst (λ p. AllAgree geo D p (at_rest (held_by holdings) safe)) moment.pending
      (subst (λ v. AllAgree geo v (rest (updates s.durably.history) s.durably.cut) (at_rest (held_by holdings) safe)) moment.device moment.good.agree)

  begin : IsBeginning kept.geometry s.durably.mount s.durably.history s.durably.cut (image_view kept.geometry m.durable) (unsynced_of queue) (state_over (image_view kept.geometry m.durable) (unsynced_of queue) holdings volume.beside) safe
  begin =
      let stands = volume.beginning.stands in
      record {
        stands = record {
          geometry = stands.geometry;
          same = refl;
          balance = subst (λ v. Balance geo (record (state_over disk (pending_of queue) holdings volume.beside) { view = v })) (sym e) stands.balance;
          agree = agree;
          files = λ f t. ap (λ (v : View). (v.inode f).mode) e ∙ s.files f t;
        };
        moment = s.durably.moment;
      }

  module _ (sights : List Seen) (command : Command) (answer : Answer) (draft : Draft) (holdings' : Holdings) (planned : IsPlannedFor kept holdings sights command answer draft holdings')
      (sees : AreSeen sights (users_view (image_view kept.geometry (image_of m)) (pending_of queue))) where
    abbrev plain : IsPlannedWith kept holdings sights command answer draft holdings'
    plain = planned_with kept holdings sights command answer draft holdings' planned

    abbrev U' : List Pending
    U' = over U draft.updates

    abbrev safe' : ℕ → Bool
    safe' = safe_after geo (users_view D U) command safe

    shows : Shows kept (users_view (image_view kept.geometry m.durable) (unsynced_of queue))
    shows = subst (Shows kept) (sym e) volume.shows

    held : Has holdings (state_over (image_view kept.geometry m.durable) (unsynced_of queue) holdings volume.beside)
    held = has D U holdings volume.beside volume.snapshots

    sees' : AreSeen sights (users_view (image_view kept.geometry m.durable) (unsynced_of queue))
    sees' = subst (AreSeen sights) (sym e) sees

    accepts' : Accepts kept.geometry (state_over (image_view kept.geometry m.durable) (unsynced_of queue) holdings volume.beside) command
    accepts' = plain.accepted old shows held

    abbrev done : IsDoneBy geo D U old safe command answer draft.file U' (state_over D U' holdings' volume.beside) safe'
    done = plain.done D U old safe begin.stands shows held sees'

    service : IsSafeService geo s.durably.mount s.durably.history s.durably.cut D U (state_over D U holdings volume.beside) safe D (over (unsynced_of queue) draft.updates) (state_over D (over (unsynced_of queue) draft.updates) holdings' volume.beside)
        (safe_after kept.geometry (users_view D U) command safe) (command ∷ []) (Ok answer ∷ []) []
    service = plan_safe geo s.durably.mount s.durably.history s.durably.cut D U old safe begin command answer draft.file U' (state_over D U' holdings' volume.beside) safe' accepts' done

    -- the plan, over what is durable
    taken : Steps kept.geometry (image_view kept.geometry m.durable) (unsynced_of queue) (state_over (image_view kept.geometry m.durable) (unsynced_of queue) holdings volume.beside) safe command answer draft.file (over (unsynced_of queue) draft.updates)
        (state_over D (over (unsynced_of queue) draft.updates) holdings' volume.beside) (safe_after kept.geometry (users_view D U) command safe) (LeavesTheRest done)
    taken = steps geo D U old safe begin.stands command answer draft.file U' (state_over D U' holdings' volume.beside) safe' accepts' done

    abbrev IsLed : Type 0
    IsLed = IsLived geo s.durably.mount s.durably.history s.durably.cut D U (held_by holdings) safe D U' (held_by holdings') safe' [] (Carries old draft.file U' (held_by holdings') safe' Begins refl taken.is_plan)

    lived : IsLed
    lived = life_lived geo s.durably.mount s.durably.history s.durably.cut D U (held_by holdings) safe s.durably.moment D U' (held_by holdings') safe' [] (Carries old draft.file U' (held_by holdings') safe' Begins refl taken.is_plan)

    -- what it writes to files is what the command asks for
    asks : (n k : ℕ) (piece : List ℕ) (c : Command) → AsksWrite old c n k piece → Contains (pieces_of (opened_by holdings) c) (record { file = n; position = k; bytes = piece })
    asks n k piece (Write h j bytes) (file, place, same) = (
      0,
      omega arith,
      ap (λ i. record { file = i; position = j; bytes = bytes }) file ∙ ap (λ p. record { file = n; position = p; bytes = bytes }) place ∙ ap (λ b. record { file = n; position = k; bytes = b }) same,
    )
    asks n k piece _ none = absurd none

    -- what was written by it
    more : (added : List Written) × (lived.h' ≡ added ++ s.durably.history)
    more =
        let first = named_more geo s.durably.mount draft.file lived.wrote.0 U lived.h' U' lived.wrote.2 in
        (first.0, first.1 ∙ ap (λ l. first.0 ++ l) lived.wrote.1)

    owning : (puts : List Put) → Owns kept.geometry s.durably.mount s.durably.history s.durably.cut puts → OwnsWith kept.geometry s.durably.mount s.durably.history lived.h' lived.cut' (pieces_of (opened_by holdings) command) puts
    owning puts o =
        plan_owns geo s.durably.mount s.durably.history s.durably.cut D U (held_by holdings) safe s.durably.moment puts o old refl draft.file U' (held_by holdings') safe' taken.is_plan
        (taken.leaves (leaves kept holdings sights command answer draft holdings' planned D U old safe begin.stands shows held sees'))
        (pieces_of (opened_by holdings) command) (λ n k piece write. asks n k piece command (taken.asks n k piece write)) lived more.0 more.1

    sizing : All (WritesLooksOf (users_view (image_view kept.geometry m.durable) (over (unsynced_of queue) draft.updates) ∷ users_view (image_view kept.geometry m.durable) (unsynced_of queue) ∷ [])) more.0
    unfolding more
    sizing =
        let v = users_view D U in
        let w = users_view D U' in
        All-weaker (λ (u : Written). LooksAre v w u.update.change) (WritesLooksOf (w ∷ v ∷ [])) (looks_in v w) more.0
        (named_each (LooksAre v w) geo s.durably.mount draft.file lived.wrote.0 U lived.h' U' U' lived.wrote.2
        (each_looking v w U U' (plan_looking geo D U old safe begin.stands.balance.rules draft.file U' (held_by holdings') safe' taken.is_plan)) refl)

    module _ (queue' : Queued) (is : queue' ≡ issued queue (map written draft.updates)) where
      unsynced' : unsynced_of queue' ≡ over (unsynced_of queue) draft.updates
      unsynced' = ap unsynced_of is ∙ unsynced_issued queue (map written draft.updates)

      since_plan : Since (base s) (pieces_of (opened_by holdings) command) s.durably.mount lived.h' m kept.geometry queue' (held_by holdings') (safe_after kept.geometry (users_view D U) command safe)
      since_plan =
          issued_since m geo queue (held_by holdings) (held_by holdings') safe safe' s queue' (map written draft.updates) is lived.h' lived.cut'
          (subst (IsMoment geo s.durably.mount lived.h' lived.cut' (at_rest (held_by holdings') safe') D) (sym unsynced') lived.moment)
          (λ f t. ap (λ (v : View). (v.inode f).mode) (ap (users_view D) unsynced') ∙ service.stands.files f t)
          (pieces_of (opened_by holdings) command) owning

      -- what users see then
      users' : users_view (image_view kept.geometry m.durable) (over (unsynced_of queue) draft.updates) ≡ users_view (image_view kept.geometry (image_of m)) (pending_of queue')
      users' = ap (users_view D) (sym unsynced') ∙ users_same geo D (unsynced_of queue') disk (pending_of queue') (held_by holdings') safe' since_plan.sound.durably

      pub planned_since : (added : List Written)
          × Since (base s) (pieces_of (opened_by holdings) command) s.durably.mount (added ++ s.durably.history) m kept.geometry queue' (held_by holdings') (safe_after kept.geometry (users_view (image_view kept.geometry (image_of m)) (pending_of queue)) command safe)
          × All (WritesLooksOf (users_view (image_view kept.geometry (image_of m)) (pending_of queue') ∷ users_view (image_view kept.geometry (image_of m)) (pending_of queue) ∷ [])) added
      planned_since =
          let asked = pieces_of (opened_by holdings) command in (
            more.0,
            subst (λ v. Since (base s) asked s.durably.mount (more.0 ++ s.durably.history) m geo queue' (held_by holdings') (safe_after geo v command safe)) e
                (subst (λ h. Since (base s) asked s.durably.mount h m geo queue' (held_by holdings') safe') more.1 since_plan),
            subst (λ v. All (WritesLooksOf (users_view disk (pending_of queue') ∷ v ∷ [])) more.0) e
                (subst (λ w. All (WritesLooksOf (w ∷ users_view D U ∷ [])) more.0) users' sizing),
          )

-- ---- of a volume

-- a command gives up no file but the one of which it takes a name
pub fewer_safe : (geo : Geometry) (view : View) (command : Command) (safe : ℕ → Bool) (f : ℕ) → IsTrue (safe_after geo view command safe f) → IsTrue (safe f)
fewer_safe x view (Unlink path) safe f t = (and_parts (safe f) _ t).0
fewer_safe x view _ safe f t = t

pub goes_planned : {D : Type 0} (held : Held) (image : List (List ℕ)) → image ≡ image_of held.now → (old new : Alive D) → new.kept.geometry ≡ old.kept.geometry
    → IsVolume old.kept old.holdings (pending_of old.queue) (image_view old.kept.geometry image)
    → (sights : List Seen) (command : Command) (answer : Answer) (draft : Draft) → IsPlannedFor old.kept old.holdings sights command answer draft new.holdings
    → AreSeen sights (users_view (image_view old.kept.geometry image) (pending_of old.queue)) → new.queue ≡ issued old.queue (map written draft.updates)
    → (safe : ℕ → Bool) → GoesSoundly held old held new safe (safe_after old.kept.geometry (users_view (image_view old.kept.geometry image) (pending_of old.queue)) command safe) (pieces_of (opened_by old.holdings) command)
    (users_view (image_view new.kept.geometry image) (pending_of new.queue) ∷ users_view (image_view old.kept.geometry image) (pending_of old.queue) ∷ [])
goes_planned held image answers old new geometry volume sights command answer draft planned sees is safe =
    let geo = old.kept.geometry in
    let safe' = safe_after geo (users_view (image_view geo image) (pending_of old.queue)) command safe in
    let asked = pieces_of (opened_by old.holdings) command in
    let views = users_view (image_view new.kept.geometry image) (pending_of new.queue) ∷ users_view (image_view geo image) (pending_of old.queue) ∷ [] in
    let since : (s : IsSound held.now geo old.queue (held_by old.holdings) safe) → (added : List Written) × Since (base s) asked s.durably.mount (added ++ s.durably.history) held.now new.kept.geometry new.queue (held_by new.holdings) safe'
    × All (WritesLooksOf views) added = λ s.
    let planned' = planned_since held.now old.kept old.holdings old.queue safe s (subst (λ i. IsVolume old.kept old.holdings (pending_of old.queue) (image_view geo i)) answers volume) sights command answer draft new.holdings planned
    (subst (λ i. AreSeen sights (users_view (image_view geo i) (pending_of old.queue))) answers sees) new.queue is in (
      planned'.0,
      subst (λ x. Since (base s) asked s.durably.mount (planned'.0 ++ s.durably.history) held.now x new.queue (held_by new.holdings) safe') (sym geometry)
          (subst (λ i. Since (base s) asked s.durably.mount (planned'.0 ++ s.durably.history) held.now geo new.queue (held_by new.holdings) (safe_after geo (users_view (image_view geo i) (pending_of old.queue)) command safe)) (sym answers) planned'.1),
      subst (λ x. All (WritesLooksOf (users_view (image_view x image) (pending_of new.queue) ∷ users_view (image_view geo image) (pending_of old.queue) ∷ [])) planned'.0) (sym geometry)
          (subst (λ i. All (WritesLooksOf (users_view (image_view geo i) (pending_of new.queue) ∷ users_view (image_view geo i) (pending_of old.queue) ∷ [])) planned'.0) (sym answers) planned'.2),
    ) in
    record {
      geometry = geometry;
      fewer = fewer_safe geo (users_view (image_view geo image) (pending_of old.queue)) command safe;
      sound = λ s. ((since s).1.sound, held_nothing geo held held safe' refl);
      adds = λ s. record {
        mount = (since s).1.mount;
        added = (since s).0;
        history = (since s).1.history;
        more = [];
        media = sym (append-nil held.media);
        each = All-nil (LeavesShown geo s.durably.mount ((since s).0 ++ s.durably.history) safe');
      };
      owns = λ s puts o. owned asked (since s).1 puts o;
      looking = λ s. (since s).2;
    }

-- ---- a snapshot ends, with nothing left that is not durable

pub goes_released : {D : Type 0} (held : Held) (image : List (List ℕ)) → image ≡ image_of held.now → (old new : Alive D) → new.kept.geometry ≡ old.kept.geometry → KeepsMetadata old.kept
    → IsVolume old.kept old.holdings [] (image_view old.kept.geometry image) → pending_of old.queue ≡ [] → unsynced_of old.queue ≡ [] → (number : ℕ) → IsSome (image_at old.holdings.snapshots.standing number)
    → (us : List Update) → over [] us ≡ releasing (let_go_blocks old.holdings number) [] → (staged : Staged) → IsStaged old.kept (changes us) staged → new.queue ≡ issued old.queue (map written us)
    → new.holdings ≡ let_go old.holdings number → (safe : ℕ → Bool) → GoesSoundly held old held new safe safe [] []
goes_released held image answers old new geometry keeps volume0 none_pending none_unsynced number stands us list staged staged_is queue holds safe = record {
  geometry = geometry;
  fewer = λ f t. t;
  sound = λ s. ((since s).1.sound, held_nothing old.kept.geometry held held safe refl);
  adds = λ s. record {
    mount = (since s).1.mount;
    added = (since s).0;
    history = (since s).1.history;
    more = [];
    media = sym (append-nil held.media);
    each = All-nil (LeavesShown old.kept.geometry s.durably.mount ((since s).0 ++ s.durably.history) safe);
  };
  owns = λ s puts o. owned [] (since s).1 puts o;
  looking = λ s. (since s).2;
}
  where
    since : (s : IsSoundOn held.now old safe) → (added : List Written) × Since (base s) [] s.durably.mount (added ++ s.durably.history) held.now new.kept.geometry new.queue (held_by new.holdings) safe × All (WritesLooksOf []) added
    since s =
        let geo = old.kept.geometry in
        let m = held.now in
        let disk = image_view geo (image_of m) in
        let D = image_view geo m.durable in
        let volume = subst (λ i. IsVolume old.kept old.holdings [] (image_view geo i)) answers volume0 in
        let d = s.durably in
        let same : D ≡ disk = sym (d.answers ∙ ap (λ u. seen D u d.loose) none_unsynced) in
        let moment : IsMoment geo d.mount d.history d.cut (at_rest (held_by old.holdings) safe) disk [] =
        subst (λ v. IsMoment geo d.mount d.history d.cut (at_rest (held_by old.holdings) safe) v []) same (subst (IsMoment geo d.mount d.history d.cut (at_rest (held_by old.holdings) safe) D) none_unsynced d.moment) in
        let was : State = state_over disk [] old.holdings volume.beside in
        let begin : IsBeginning geo d.mount d.history d.cut disk [] was safe = record {
          stands = record {
            geometry = volume.beginning.stands.geometry;
            same = refl;
            balance = volume.beginning.stands.balance;
            agree = subst (λ p. AllAgree geo disk p (at_rest (held_by old.holdings) safe)) moment.pending
                (subst (λ v. AllAgree geo v (rest (updates d.history) d.cut) (at_rest (held_by old.holdings) safe)) moment.device moment.good.agree);
            files = λ f t. ap (λ q. ((users_view disk q).inode f).mode) (sym none_pending) ∙ s.files f t;
          };
          moment = moment;
        } in
        let n = length old.holdings.held in
        let left = releasing (let_go_below was number n) [] in
        let gone = Releases number [] [] disk n WritesNone (few old.kept old.holdings disk keeps volume number stands us list staged staged_is) in
        let service = service_safe geo d.mount d.history d.cut disk [] was safe begin disk left (released was number) safe (Release number ∷ []) (Ok Done ∷ []) []
        (CarriesOut (Release number) Done disk left (released was number) safe [] Starts (accepts old.kept old.holdings disk keeps volume number stands us list staged staged_is) gone) in
        let may = plan_release geo begin.stands.geometry was begin.stands.balance number n (few old.kept old.holdings disk keeps volume number stands us list staged staged_is) in
        let ends = EndsSnapshot was (held_still was number) (let_go_below was number n) Begins refl may in
        let lived = life_lived geo d.mount d.history d.cut disk [] (held_by old.holdings) safe moment disk left (held_still was number) safe [] ends in
        let unsynced' : unsynced_of new.queue ≡ left =
        ap unsynced_of queue ∙ unsynced_issued old.queue (map written us) ∙ ap (λ q. over q us) none_unsynced ∙ cleared old.kept old.holdings disk keeps volume number stands us list staged staged_is in
        let holds' : held_still was number ≡ held_by new.holdings =
        sym (ap held_by holds ∙ held_after old.kept old.holdings disk keeps volume number stands us list staged staged_is volume.beside volume.snapshots) in
        let now : IsMoment geo d.mount lived.h' lived.cut' (at_rest (held_by new.holdings) safe) D (unsynced_of new.queue) =
        subst (λ v. IsMoment geo d.mount lived.h' lived.cut' (at_rest (held_by new.holdings) safe) v (unsynced_of new.queue)) (sym same)
        (subst (IsMoment geo d.mount lived.h' lived.cut' (at_rest (held_by new.holdings) safe) disk) (sym unsynced')
        (subst (λ b. IsMoment geo d.mount lived.h' lived.cut' (at_rest b safe) disk left) holds' lived.moment)) in
        let more = named_more geo d.mount 0 lived.wrote.0 [] lived.h' left lived.wrote.2 in
        let longer = more.1 ∙ ap (λ l. more.0 ++ l) lived.wrote.1 in (
          more.0,
          subst (λ x. Since (base s) [] d.mount (more.0 ++ d.history) m x new.queue (held_by new.holdings) safe) (sym geometry)
              (subst (λ h. Since (base s) [] d.mount h m geo new.queue (held_by new.holdings) safe) longer
              (issued_since m geo old.queue (held_by old.holdings) (held_by new.holdings) safe safe s new.queue (map written us) queue lived.h' lived.cut' now
              (λ f t. ap (λ (v : View). (v.inode f).mode) (ap₂ users_view same unsynced' ∙ service.stands.same) ∙ service.stands.files f t)
              [] (λ puts o. ([], refl, subst (λ l. PutAlong d.mount d.history l []) (sym longer) (along_written d.mount d.history d.history [] more.0 Starts), release_owns geo d.mount d.history d.cut disk (held_by old.holdings) safe moment puts o was (held_still was number) (let_go_below was number n) refl may lived)))),
          All-weaker (λ (u : Written). WritesNoRecord u.update.change) (WritesLooksOf []) none_looking more.0
              (named_each WritesNoRecord geo d.mount 0 lived.wrote.0 [] lived.h' left left lived.wrote.2 (releases_blocks (let_go_below was number n) [] [] Here) refl),
        )
