-- What a volume goes through by calls, one after another.
use Rattle.std.proofs.Common.{◌≡◌, ℕ, Bool, List, [], ◌∷◌, ◌++◌, map, reverse, Ok, Err, sym, ap, ap₂, ◌∙◌, subst}
use Rattle.std.proofs.lemmas.List.Elements.{All-append}
use Rattle.std.proofs.lemmas.List.{append_assoc, append-nil, reverse-append, map-append}
use Rattle.model.specs.Image.{IsImage, image_view}
use Rattle.model.specs.Layout.{Geometry}
use Rattle.model.specs.View.{View}
use Rattle.device.specs.Media.{Held, images_held}
use Rattle.ordering.specs.Cuts.{Pending}
use Rattle.machine.specs.Command.{Command, Reply}
use Rattle.machine.specs.State.{State}
use Rattle.machine.specs.Step.{Run}
use Rattle.queue_model.specs.Files.{Written}
use Rattle.courses.proofs.ServiceLemmas.{service_safe}
use Rattle.courses.specs.Serves.{IsBeginning, Service, Starts, CarriesOut, Refuses, Flushed}
use Rattle.softdep.specs.Queued.{pending_of}
use Rattle.live_states.specs.Holdings.{Beside}
use Rattle.live_states.specs.Volume.{state_over}
use Rattle.live.specs.Alive.{Alive, disk_of, state_of}
use Rattle.live.specs.Held.{HeldMore}
use Rattle.live.specs.Durable.{GoesSoundly, pieces_of}
use Rattle.live.proofs.Durably.{goes_then}
use Rattle.snapshot.specs.Goes.{Goes, pieces_in, views_in}

-- ---- runs

-- with what both write
runs_join : (geo : Geometry) (old mid new : State) (commands more : List Command) (replies others : List Reply) (run : Run geo old commands replies mid) (then : Run geo mid more others new)
    → (all : Run geo old (commands ++ more) (replies ++ others) new)
    × (pieces_in geo old (commands ++ more) (replies ++ others) new all ≡ pieces_in geo mid more others new then ++ pieces_in geo old commands replies mid run)
    × (views_in geo old (commands ++ more) (replies ++ others) new all ≡ views_in geo mid more others new then ++ views_in geo old commands replies mid run)
runs_join geo old mid new [] more [] others e run =
    subst (λ s. (all : Run geo s more others new) × (pieces_in geo s more others new all ≡ pieces_in geo mid more others new run ++ []) × (views_in geo s more others new all ≡ views_in geo mid more others new run ++ [])) e
    (run, sym (append-nil (pieces_in geo mid more others new run)), sym (append-nil (views_in geo mid more others new run)))
runs_join geo old mid new (c ∷ cs) more (Ok a ∷ rs) others run then =
    let rest = runs_join geo run.0 mid new cs more rs others run.2 then in (
      (run.0, run.1, rest.0),
      ap (λ l. l ++ pieces_of old.opened c) rest.1 ∙ append_assoc (pieces_in geo mid more others new then) (pieces_in geo run.0 cs rs mid run.2) (pieces_of old.opened c),
      ap (λ l. l ++ run.0.view ∷ old.view ∷ []) rest.2 ∙ append_assoc (views_in geo mid more others new then) (views_in geo run.0 cs rs mid run.2) (run.0.view ∷ old.view ∷ []),
    )
runs_join geo old mid new (c ∷ cs) more (Err r ∷ rs) others run then =
    let rest = runs_join geo run.0 mid new cs more rs others run.2 then in
    ((run.0, run.1, rest.0), rest.1, ap (λ l. l ++ run.0.view ∷ old.view ∷ []) rest.2 ∙ append_assoc (views_in geo mid more others new then) (views_in geo run.0 cs rs mid run.2) (run.0.view ∷ old.view ∷ []))
runs_join geo old mid new [] more (r ∷ rs) others run then = absurd run
runs_join geo old mid new (c ∷ cs) more [] others run then = absurd run

-- ---- services

module _ (geo : Geometry) (disk0 : View) (q0 : List Pending) (old0 : State) (safe0 : ℕ → Bool) (disk1 : View) (q1 : List Pending) (old1 : State) (safe1 : ℕ → Bool)
    (commands : List Command) (replies : List Reply) (images : List View) (first : Service geo disk0 q0 old0 safe0 disk1 q1 old1 safe1 commands replies images) where
  abbrev From : View → List Pending → State → (ℕ → Bool) → List Command → List Reply → List View → Type 0
  From disk q new safe cs rs is = Service geo disk0 q0 old0 safe0 disk q new safe cs rs is

  services_join : (disk : View) (q : List Pending) (new : State) (safe : ℕ → Bool) (more : List Command) (others : List Reply) (later : List View) → Service geo disk1 q1 old1 safe1 disk q new safe more others later
      → From disk q new safe (commands ++ more) (replies ++ others) (later ++ images)
  services_join disk q new safe more others later Starts =
      subst (λ cs. From disk1 q1 old1 safe1 cs (replies ++ []) images) (sym (append-nil commands)) (subst (λ rs. From disk1 q1 old1 safe1 commands rs images) (sym (append-nil replies)) first)
  services_join disk q new safe ms os ls (CarriesOut {disk = d} {q = p} {old = s} {safe = f} {commands = more} {replies = others} {images = later} command answer d' p' t f' now service accepts serves) =
      subst (λ cs. From d' p' t f' cs (replies ++ (others ++ Ok answer ∷ [])) ((now ++ later) ++ images)) (append_assoc commands more (command ∷ []))
      (subst (λ rs. From d' p' t f' ((commands ++ more) ++ command ∷ []) rs ((now ++ later) ++ images)) (append_assoc replies others (Ok answer ∷ []))
      (subst (λ is. From d' p' t f' ((commands ++ more) ++ command ∷ []) ((replies ++ others) ++ Ok answer ∷ []) is) (sym (append_assoc now later images))
      (CarriesOut command answer d' p' t f' now (services_join d p s f more others later service) accepts serves)))
  services_join disk q new safe ms os ls (Refuses {disk = d} {q = p} {old = s} {safe = f} {commands = more} {replies = others} {images = later} command r service step) =
      subst (λ cs. From d p s f cs (replies ++ (others ++ Err r ∷ [])) (later ++ images)) (append_assoc commands more (command ∷ []))
      (subst (λ rs. From d p s f ((commands ++ more) ++ command ∷ []) rs (later ++ images)) (append_assoc replies others (Err r ∷ []))
      (Refuses command r (services_join d p s f more others later service) step))
  services_join disk q new safe ms os ls (Flushed {disk = d} {q = p} {old = s} {safe = f} {commands = more} {replies = others} {images = later} a cut service closed of_block) =
      Flushed a cut (services_join d p s f more others later service) closed of_block

-- ---- what the device held

held_joins : (geo : Geometry) (held held' held'' : Held) (later latest : List View) → HeldMore geo held held' later → HeldMore geo held' held'' latest → HeldMore geo held held'' (latest ++ later)
held_joins geo held held' held'' later latest one two = record {
  more = one.more ++ two.more;
  held_now = two.held_now ∙ ap (λ xs. xs ++ two.more) one.held_now ∙ append_assoc (images_held held) one.more two.more;
  views = ap reverse (map-append (image_view geo) one.more two.more) ∙ reverse-append (map (image_view geo) one.more) (map (image_view geo) two.more) ∙ ap₂ (λ xs ys. xs ++ ys) two.views one.views;
  framed = All-append (IsImage geo) one.more two.more one.framed two.framed;
}

-- ---- all of it

module _ {D : Type 0} (beside beside' beside'' : Beside) (held held' held'' : Held) (image image' image'' : List (List ℕ)) (old mid new : Alive D)
    (commands more : List Command) (replies others : List Reply)
    (one : Goes beside held image old commands replies beside' held' image' mid) (two : Goes beside' held' image' mid more others beside'' held'' image'' new) where
  abbrev geo : Geometry
  geo = old.kept.geometry

  abbrev disk : View
  disk = disk_of image old

  abbrev q : List Pending
  q = pending_of old.queue

  abbrev s : State
  s = state_of image old beside

  -- between the two, by whatever geometry
  abbrev disk_by : Geometry → View
  disk_by g = image_view g image'

  abbrev state_by : Geometry → State
  state_by g = state_over (image_view g image') (pending_of mid.queue) mid.holdings beside'

  abbrev FirstBy : Geometry → Type 0
  FirstBy g = (run : Run geo s commands replies (state_by g)) × ((mount : View) (h : List Written) (cut : List Bool) (safe : ℕ → Bool) → IsBeginning geo mount h cut disk q s safe
      → (safe' : ℕ → Bool) × Service geo disk q s safe (disk_by g) (pending_of mid.queue) (state_by g) safe' commands replies one.later × GoesSoundly held old held' mid safe safe' (pieces_in geo s commands replies (state_by g) run) (views_in geo s commands replies (state_by g) run))

  abbrev SecondBy : Geometry → Type 0
  SecondBy g = (run : Run g (state_by g) more others (state_of image'' new beside'')) × ((mount : View) (h : List Written) (cut : List Bool) (safe : ℕ → Bool) → IsBeginning g mount h cut (disk_by g) (pending_of mid.queue) (state_by g) safe
      → (safe' : ℕ → Bool) × Service g (disk_by g) (pending_of mid.queue) (state_by g) safe (disk_of image'' new) (pending_of new.queue) (state_of image'' new beside'') safe' more others two.later × GoesSoundly held' mid held'' new safe safe' (pieces_in g (state_by g) more others (state_of image'' new beside'') run) (views_in g (state_by g) more others (state_of image'' new beside'') run))

  first : FirstBy geo
  first = subst FirstBy one.geometry (one.run, one.service)

  second : SecondBy geo
  second = subst SecondBy one.geometry (two.run, two.service)

  runs : (run : Run old.kept.geometry (state_of image old beside) (commands ++ more) (replies ++ others) (state_of image'' new beside''))
      × (pieces_in old.kept.geometry (state_of image old beside) (commands ++ more) (replies ++ others) (state_of image'' new beside'') run
      ≡ pieces_in old.kept.geometry (state_by old.kept.geometry) more others (state_of image'' new beside'') second.0 ++ pieces_in old.kept.geometry (state_of image old beside) commands replies (state_by old.kept.geometry) first.0)
      × (views_in old.kept.geometry (state_of image old beside) (commands ++ more) (replies ++ others) (state_of image'' new beside'') run
      ≡ views_in old.kept.geometry (state_by old.kept.geometry) more others (state_of image'' new beside'') second.0 ++ views_in old.kept.geometry (state_of image old beside) commands replies (state_by old.kept.geometry) first.0)
  runs = runs_join geo s (state_by geo) (state_of image'' new beside'') commands more replies others first.0 second.0

  both : (mount : View) (h : List Written) (cut : List Bool) (safe : ℕ → Bool) → IsBeginning geo mount h cut disk q s safe
      → (safe' : ℕ → Bool) × Service geo disk q s safe (disk_of image'' new) (pending_of new.queue) (state_of image'' new beside'') safe' (commands ++ more) (replies ++ others) (two.later ++ one.later) × GoesSoundly held old held'' new safe safe'
      (pieces_in geo s (commands ++ more) (replies ++ others) (state_of image'' new beside'') runs.0) (views_in geo s (commands ++ more) (replies ++ others) (state_of image'' new beside'') runs.0)
  both mount h cut safe begin =
      let f = first.1 mount h cut safe begin in
      let safely = service_safe geo mount h cut disk q s safe begin (disk_by geo) (pending_of mid.queue) (state_by geo) f.0 commands replies one.later f.1 in
      let l = second.1 mount safely.lived.h' safely.lived.cut' f.0 (record { stands = safely.stands; moment = safely.lived.moment }) in (
        l.0,
        services_join geo disk q s safe (disk_by geo) (pending_of mid.queue) (state_by geo) f.0 commands replies one.later f.1
            (disk_of image'' new) (pending_of new.queue) (state_of image'' new beside'') l.0 more others two.later l.1,
        subst (λ pieces. GoesSoundly held old held'' new safe l.0 pieces (views_in geo s (commands ++ more) (replies ++ others) (state_of image'' new beside'') runs.0)) (sym runs.1)
            (subst (GoesSoundly held old held'' new safe l.0 (pieces_in geo (state_by geo) more others (state_of image'' new beside'') second.0 ++ pieces_in geo s commands replies (state_by geo) first.0)) (sym runs.2)
            (goes_then held held' held'' old mid new safe f.0 l.0 (pieces_in geo s commands replies (state_by geo) first.0) (pieces_in geo (state_by geo) more others (state_of image'' new beside'') second.0)
            (views_in geo s commands replies (state_by geo) first.0) (views_in geo (state_by geo) more others (state_of image'' new beside'') second.0) f.2 l.2)),
      )

  pub joined : Goes beside held image old (commands ++ more) (replies ++ others) beside'' held'' image'' new
  joined = record {
    geometry = two.geometry ∙ one.geometry;
    is = two.is;
    run = runs.0;
    later = two.later ++ one.later;
    since = held_joins geo held held' held'' one.later two.later one.since (subst (λ g. HeldMore g held' held'' two.later) one.geometry two.since);
    service = both;
  }
