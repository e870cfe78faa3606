-- A snapshot begins, is read, and ends.
use Rattle.std.proofs.Common.{◌≡◌, ◌<◌, ℕ, zero, suc, arith, Bool, true, false, not, ◌&&◌, List, [], ◌∷◌, ◌++◌, Ok, Option, Some, None, IsTrue, refl, sym, ap, ◌∙◌, subst, map}
use Rattle.std.specs.Prelude.{is_none, is_some, length, slice_index_or}
use Rattle.std.proofs.lemmas.List.{append-nil}
use mathlib.Core.Path.{fun_ext}
use Rattle.findings.specs.Numbers.{found_below}
use Rattle.layout.specs.declared.refusal.Refusal.TheVariants.{NoSnapshot, TooManySnapshots}
use Rattle.model.specs.Image.{image_view}
use Rattle.model.specs.Layout.{Geometry}
use Rattle.model.specs.View.{View}
use Rattle.device.specs.Media.{Held}
use Rattle.ordering.specs.Cuts.{Pending}
use Rattle.queue_model.specs.Blocks.{home_of}
use Rattle.queue_model.specs.Sync.{Writes}
use Rattle.machine.specs.Below.{first_of, when}
use Rattle.machine.specs.Causes.{Accepts, causes, refusal_of}
use Rattle.machine.specs.Command.{Done, Freeze, Image, Release}
use Rattle.machine.specs.Snapshot.{frozen, released, settled}
use Rattle.machine.specs.Standing.{begun as more, ended as fewer, image_at, others, too_many}
use Rattle.machine.specs.State.{State, snapshot_at}
use Rattle.machine.specs.Step.{Step}
use Rattle.plans_data.specs.Lists.{let_go_below}
use Rattle.plans_data.specs.Release.{releasing}
use Rattle.courses.specs.Serves.{CarriesOut, Freezes, Releases, Service, Starts}
use Rattle.frozen.specs.Kept.{Kept}
use Rattle.metadata.specs.Shown.{Shows}
use Rattle.softdep.specs.Queued.{Queued, pending_of}
use Rattle.softdep.specs.Syncing.{AreWrites}
use Rattle.live_states.specs.Holdings.{Beside, IsImageOf, held_by}
use Rattle.live_states.specs.Snapshots.{keeping, let_go, let_go_blocks}
use Rattle.live_states.proofs.Images.{images_begun, images_ended, same_at, same_kept, same_room}
use Rattle.live_states.specs.Volume.{state_over}
use Rattle.live.specs.Alive.{Alive, StandsSo, disk_of, state_of}
use Rattle.live.proofs.Durably.{goes_seen}
use Rattle.snapshot.specs.Goes.{Goes, IsBeside, StaysSafe}
use Rattle.snapshot.proofs.Going.{beside_then, flushed_since, flushed_state, images}

-- ---- whether one may begin, and whether one stands

pub none_frozen : (snapshot : Option Kept) (frozen : Option View) → IsImageOf snapshot frozen → is_some frozen ≡ is_some snapshot
none_frozen None None t = refl
none_frozen (Some k) (Some v) t = refl
none_frozen None (Some v) t = absurd t
none_frozen (Some k) None t = absurd t

accepts_freeze : (geo : Geometry) (old : State) → too_many old.snapshots ≡ false → Accepts geo old Freeze
unfolding causes
accepts_freeze geo old e = (ap (λ b. first_of (when b TooManySnapshots ∷ [])) e, tt)

pub refuses_freeze : (geo : Geometry) (old : State) → too_many old.snapshots ≡ true → refusal_of geo old Freeze ≡ Some TooManySnapshots
unfolding causes
refuses_freeze geo old e = ap (λ b. first_of (when b TooManySnapshots ∷ [])) e

accepts_release : (geo : Geometry) (old : State) (s : ℕ) → is_some (snapshot_at old s) ≡ true → Accepts geo old (Release s)
unfolding causes
accepts_release geo old s e = (by (snapshot_at old s) e, tt)
  where
    by : (f : Option View) → is_some f ≡ true → first_of (when (is_none f) NoSnapshot ∷ []) ≡ None
    by None e = let bad : false ≡ true = e in cc
    by (Some v) e = refl

pub refuses_release : (geo : Geometry) (old : State) (s : ℕ) → is_some (snapshot_at old s) ≡ false → refusal_of geo old (Release s) ≡ Some NoSnapshot
unfolding causes
refuses_release geo old s e = by (snapshot_at old s) e
  where
    by : (f : Option View) → is_some f ≡ false → first_of (when (is_none f) NoSnapshot ∷ []) ≡ Some NoSnapshot
    by None e = refl
    by (Some v) e = let bad : true ≡ false = e in cc

-- what is marked stands in the list
within : (marks : List Bool) (a : ℕ) → slice_index_or marks a false ≡ true → a < length marks
within [] a t = let bad : false ≡ true = t in cc
within (m ∷ marks) zero t = omega arith
within (m ∷ marks) (suc a) t = omega (arith, within marks a t)

module _ {D : Type 0} (held held' : Held) (image image' : List (List ℕ)) (old : Alive D) (beside : Beside) (is : IsBeside image old beside) (queue : Queued)
    (flushes : AreWrites old.kept.geometry image held (pending_of old.queue) image' held' (pending_of queue)) (none : pending_of queue ≡ []) where
  abbrev geo : Geometry
  geo = old.kept.geometry

  abbrev disk : View
  disk = disk_of image old

  abbrev disk' : View
  disk' = image_view geo image'

  abbrev q : List Pending
  q = pending_of old.queue

  abbrev s : State
  s = state_of image old beside

  -- once all is written users see what they saw
  same_state : state_over disk' (pending_of queue) old.holdings beside ≡ s
  same_state = flushed_state held held' image image' old beside is queue flushes old.holdings

  abbrev later : List View
  later = images held held' image image' old beside is queue flushes

  same_later : later ++ [] ≡ later
  same_later = append-nil later

  -- ---- it begins

  module _ (device : D) (snapshot : Kept) (room : too_many old.holdings.snapshots ≡ false)
      (shows : Shows snapshot (settled geo s))
      (begun : state_over disk' (pending_of queue) (keeping old.holdings snapshot) (record { snapshots = more beside.snapshots (settled geo (state_over disk' (pending_of queue) old.holdings beside)) })
      ≡ frozen geo (state_over disk' (pending_of queue) old.holdings beside))
      (so : StandsSo image' (record { device = device; queue = queue; kept = old.kept; holdings = keeping old.holdings snapshot }))
      (sound : StaysSafe held old held' (record { device = device; queue = queue; kept = old.kept; holdings = keeping old.holdings snapshot })) where
    new : Alive D
    new = record { device = device; queue = queue; kept = old.kept; holdings = keeping old.holdings snapshot }

    abbrev beside' : Beside
    beside' = record { snapshots = more beside.snapshots (settled geo s) }

    frozen_now : state_over disk' (pending_of queue) (keeping old.holdings snapshot) beside' ≡ frozen geo s
    frozen_now = subst (λ t. state_over disk' (pending_of queue) (keeping old.holdings snapshot) (record { snapshots = more beside.snapshots (settled geo t) }) ≡ frozen geo t) same_state begun

    accepted : Accepts geo s Freeze
    accepted = accepts_freeze geo s (same_room old.holdings.snapshots beside.snapshots is.belongs ∙ room)

    pub freezes : Goes beside held image old (Freeze ∷ []) (Ok (Image s.snapshots.freezes (settled geo s)) ∷ []) beside' held' image' (record { device = device; queue = queue; kept = old.kept; holdings = keeping old.holdings snapshot })
    freezes =
        let t = state_over disk' (pending_of queue) (keeping old.holdings snapshot) beside' in
        let step : Step geo s Freeze (Ok (Image s.snapshots.freezes (settled geo s))) t = (accepted, (refl, frozen_now)) in
        record {
          geometry = refl;
          is = beside_then image' (record { device = device; queue = queue; kept = old.kept; holdings = keeping old.holdings snapshot }) so beside' image old beside Freeze (Ok (Image s.snapshots.freezes (settled geo s))) refl is (images_begun old.holdings.snapshots beside.snapshots snapshot (settled geo s) is.belongs shows) step;
          run = (t, step, refl);
          later = later;
          since = flushed_since held held' image image' old beside is queue flushes;
          service = λ mount h cut safe begin. (
            safe,
            subst (λ x. Service geo disk q s safe disk' (pending_of queue) x safe (Freeze ∷ []) (Ok (Image s.snapshots.freezes (settled geo s)) ∷ []) later) (sym frozen_now)
                (subst (λ p. Service geo disk q s safe disk' p (frozen geo s) safe (Freeze ∷ []) (Ok (Image s.snapshots.freezes (settled geo s)) ∷ []) later) (sym none)
                (subst (λ xs. Service geo disk q s safe disk' [] (frozen geo s) safe (Freeze ∷ []) (Ok (Image s.snapshots.freezes (settled geo s)) ∷ []) xs) same_later
                (CarriesOut Freeze (Image s.snapshots.freezes (settled geo s)) disk' [] (frozen geo s) safe later Starts accepted
                (Freezes flushes.blocks (map (image_view geo) flushes.more) disk' (subst (λ p. Writes (home_of geo) disk q flushes.blocks (map (image_view geo) flushes.more) disk' p) none flushes.writes))))),
            goes_seen _ _ _ _ _ _ _ _ (sound safe),
          );
        }

  -- ---- it ends

  module _ (device : D) (queue' : Queued) (kept' : Kept) (n : ℕ) (stands : is_some (image_at old.holdings.snapshots.standing n) ≡ true) (geometry : kept'.geometry ≡ geo)
      (pending : pending_of queue' ≡ releasing (let_go_blocks old.holdings n) [])
      (ended : state_over (image_view kept'.geometry image') (pending_of queue') (let_go old.holdings n) (record { snapshots = fewer beside.snapshots n }) ≡ released (state_over disk' (pending_of queue) old.holdings beside) n)
      (so : StandsSo image' (record { device = device; queue = queue'; kept = kept'; holdings = let_go old.holdings n }))
      (sound : StaysSafe held old held' (record { device = device; queue = queue'; kept = kept'; holdings = let_go old.holdings n })) where
    released_now : state_over (image_view kept'.geometry image') (pending_of queue') (let_go old.holdings n) (record { snapshots = fewer beside.snapshots n }) ≡ released s n
    released_now = ended ∙ ap (λ t. released t n) same_state

    ends_accepted : Accepts geo s (Release n)
    ends_accepted = accepts_release geo s n (none_frozen (image_at old.holdings.snapshots.standing n) (image_at beside.snapshots.standing n) (same_at old.holdings.snapshots.standing beside.snapshots.standing is.belongs.1 n) ∙ stands)

    few : (a : ℕ) → IsTrue (held_by old.holdings a) → a < length old.holdings.held
    few a t = within old.holdings.held a t

    same_pending : releasing (let_go_below s n (length old.holdings.held)) [] ≡ pending_of queue'
    same_pending = ap (λ (f : ℕ → Bool). releasing (found_below f (λ a. a) (length old.holdings.held)) []) (fun_ext (λ a. ap (λ k. held_by old.holdings a && not k)
        (same_kept (others old.holdings.snapshots.standing n) (others beside.snapshots.standing n) (images_ended old.holdings.snapshots beside.snapshots n is.belongs).1 a)))
        ∙ sym pending

    pub releases : Goes beside held image old (Release n ∷ []) (Ok Done ∷ []) (record { snapshots = fewer beside.snapshots n }) held' image' (record { device = device; queue = queue'; kept = kept'; holdings = let_go old.holdings n })
    releases =
        let t = state_over (image_view kept'.geometry image') (pending_of queue') (let_go old.holdings n) (record { snapshots = fewer beside.snapshots n }) in
        let step : Step geo s (Release n) (Ok Done) t = (ends_accepted, released_now) in
        let m = length old.holdings.held in
        record {
          geometry = geometry;
          is = beside_then image' (record { device = device; queue = queue'; kept = kept'; holdings = let_go old.holdings n }) so (record { snapshots = fewer beside.snapshots n }) image old beside (Release n) (Ok Done) geometry is (images_ended old.holdings.snapshots beside.snapshots n is.belongs) step;
          run = (t, step, refl);
          later = later;
          since = flushed_since held held' image image' old beside is queue flushes;
          service = λ mount h cut safe begin. (
            safe,
            subst (λ g. Service geo disk q s safe (image_view g image') (pending_of queue') t safe (Release n ∷ []) (Ok Done ∷ []) later) (sym geometry)
                (subst (λ x. Service geo disk q s safe disk' (pending_of queue') x safe (Release n ∷ []) (Ok Done ∷ []) later) (sym released_now)
                (subst (λ p. Service geo disk q s safe disk' p (released s n) safe (Release n ∷ []) (Ok Done ∷ []) later) same_pending
                (subst (λ xs. Service geo disk q s safe disk' (releasing (let_go_below s n m) []) (released s n) safe (Release n ∷ []) (Ok Done ∷ []) xs) same_later
                (CarriesOut (Release n) Done disk' (releasing (let_go_below s n m) []) (released s n) safe later Starts ends_accepted
                (Releases n flushes.blocks (map (image_view geo) flushes.more) disk' m (subst (λ p. Writes (home_of geo) disk q flushes.blocks (map (image_view geo) flushes.more) disk' p) none flushes.writes) few))))),
            goes_seen _ _ _ _ _ _ _ _ (sound safe),
          );
        }
