-- Flushes of a volume: what stays, and how they are answered.
use Rattle.std.proofs.Common.{◌≡◌, ◌<◌, ◌≤◌, ◌==◌, ◌||◌, if◌then◌else◌, ℕ, zero, suc, Bool, true, false, leb, List, [], ◌∷◌, ◌++◌, length, Some, None, Ok, refl, sym, ap, ◌∙◌, subst, arith}
use Rattle.std.specs.Prelude.{map, reverse, slice_set}
use Rattle.std.specs.Bool.{then_some}
use Rattle.std.specs.Option.{option_or}
use Rattle.std.proofs.lemmas.Bool.{le-leb}
use Rattle.std.proofs.lemmas.Bool.Decides.{nat_tests}
use Rattle.std.proofs.lemmas.List.Elements.{All-cons, All-nil}
use Rattle.std.proofs.lemmas.List.{append-nil, length-set}
use Rattle.layout.specs.declared.refusal.Refusal.TheVariants.{BadIndex}
use Rattle.model.specs.Image.{IsImage, image_view}
use Rattle.model.specs.Layout.{Geometry, block_count}
use Rattle.model.specs.View.{View}
use Rattle.device.specs.Media.{Held, images_held}
use Rattle.ordering.specs.Cuts.{Pending, IsClosed, rest, seen, users_view}
use Rattle.ordering.proofs.Flushes.{users_flushed}
use Rattle.queue_model.specs.Blocks.{home_of}
use Rattle.queue_model.specs.Flush.{taken, IsOfBlock}
use Rattle.queue_model.specs.Sync.{Writes, WritesNone, WritesNext}
use Rattle.queue_model.proofs.FlushLemmas.{none_taken}
use Rattle.machine.specs.Causes.{Accepts, causes, refusal_of}
use Rattle.machine.specs.Command.{Done, Flush, Number, Sync}
use Rattle.machine.specs.State.{State}
use Rattle.machine.specs.Step.{Step}
use Rattle.courses.specs.Serves.{FlushesNone, FlushesSome, Serves, SyncsAll}
use Rattle.frozen.specs.Kept.{Kept}
use Rattle.softdep.specs.Queued.{Queued, after_flush, flushed, next_cut, pending_of, settled}
use Rattle.softdep.specs.Syncing.{AreWrites}
use Rattle.live_states.specs.Holdings.{Beside, Holdings, held_by, opened_by, plan_by}
use Rattle.live_states.specs.Volume.{IsVolume, state_over}
use Rattle.live_states.proofs.Standing.{put}
use Rattle.live.specs.Alive.{Alive, Answers, IsLive}
use Rattle.live.specs.Held.{HeldMore}

-- ---- which blocks may be flushed

pub accepts_flush : (geo : Geometry) (old : State) (a : ℕ) → a < block_count geo → Accepts geo old (Flush a)
unfolding causes
accepts_flush geo old a low =
    let past : leb (block_count geo) a ≡ false = grind (arith, nat_tests) in
    (ap (λ b. option_or (then_some b BadIndex) None) past, tt)

pub refuses_flush : (geo : Geometry) (old : State) (a : ℕ) → block_count geo ≤ a → refusal_of geo old (Flush a) ≡ Some BadIndex
unfolding causes
refuses_flush geo old a high = ap (λ b. option_or (then_some b BadIndex) None) (le-leb (block_count geo) a high)

accepts_sync : (geo : Geometry) (old : State) → Accepts geo old Sync
unfolding causes
accepts_sync geo old = (refl, tt)

-- ---- the invariant

pub live_after : (honest honest' : Type 0) (image image' : List (List ℕ)) (queue queue' : Queued) (kept : Kept) (holdings : Holdings) → IsLive honest image queue kept holdings
    → queue'.geometry ≡ queue.geometry → length image' ≡ block_count queue'.geometry
    → (cut : List Bool) → IsClosed (pending_of queue) cut → pending_of queue' ≡ rest (pending_of queue) cut
    → (honest' → honest) → (honest' → IsVolume kept holdings (pending_of queue) (image_view kept.geometry image) → IsVolume kept holdings (pending_of queue') (image_view kept.geometry image'))
    → (honest' → IsImage kept.geometry image → IsImage kept.geometry image') → IsLive honest' image' queue' kept holdings
live_after honest honest' image image' queue queue' kept holdings live same count cut closed pending back goes frame = record {
  geometry = same ∙ live.geometry;
  alive = record {
    count = count ∙ ap block_count (same ∙ live.geometry);
    keeps = live.alive.keeps;
    disk = seen live.alive.disk (pending_of queue) cut;
    some = subst (λ q. IsVolume kept holdings q (seen live.alive.disk (pending_of queue) cut)) (sym pending) (put kept holdings (pending_of queue) live.alive.disk live.alive.some cut closed);
    true = λ h. goes h (live.alive.true (back h));
  };
  marks = live.marks;
  repairs = live.repairs;
  snapshots = live.snapshots;
  framed = λ h. frame h (live.framed (back h));
}

pub still_live : (honest honest' : Type 0) (image image' : List (List ℕ)) (queue queue' : Queued) (kept : Kept) (holdings : Holdings) → IsLive honest image queue kept holdings → queue' ≡ queue → image' ≡ image → (honest' → honest) → IsLive honest' image' queue' kept holdings
still_live honest honest' image image' queue queue' kept holdings live same_queue same_image back =
    subst (λ q. IsLive honest' image' q kept holdings) (sym same_queue) (subst (λ i. IsLive honest' i queue kept holdings) (sym same_image) (record {
      geometry = live.geometry;
      alive = record {
        count = live.alive.count;
        keeps = live.alive.keeps;
        disk = live.alive.disk;
        some = live.alive.some;
        true = λ h. live.alive.true (back h);
      };
      marks = live.marks;
      repairs = live.repairs;
      snapshots = live.snapshots;
      framed = λ h. live.framed (back h);
    }))

-- a flush leaves as many blocks
pub same_length : (image image' : List (List ℕ)) (a n : ℕ) → (n ≡ 0 → image' ≡ image) → (0 < n → (block : List ℕ) × (image' ≡ slice_set image a block)) → length image' ≡ length image
same_length image image' a zero none some = ap length (none refl)
same_length image image' a (suc n) none some = let is = some (omega arith) in ap length is.1 ∙ length-set image a is.0

-- a flush leaves the geometry
pub flush_geometry : (keeps_order : Bool) (queue : Queued) (a : ℕ) → (after_flush keeps_order queue a).geometry ≡ queue.geometry
flush_geometry keeps_order queue a = either (keeps_order || taken (next_cut queue a) == 0)
  where
    either : (b : Bool) → (if b then settled (flushed queue a) else flushed queue a).geometry ≡ queue.geometry
    either true = refl
    either false = refl

-- ---- a flush

module _ (kept : Kept) (holdings : Holdings) (disk : View) (q : List Pending) (a : ℕ) (cut : List Bool) (closed : IsClosed q cut) (of_block : IsOfBlock (home_of kept.geometry) a q cut) where
  abbrev geo : Geometry
  geo = kept.geometry

  pub flush_keeps : (disk' : View) (q' : List Pending) → disk' ≡ seen disk q cut → q' ≡ rest q cut → IsVolume kept holdings q disk → IsVolume kept holdings q' disk'
  flush_keeps disk' q' view pending volume =
      subst (IsVolume kept holdings q') (sym view) (subst (λ p. IsVolume kept holdings p (seen disk q cut)) (sym pending) (put kept holdings q disk volume cut closed))

  module _ (beside : Beside) where
    abbrev old : State
    old = state_over disk q holdings beside

    abbrev as_seen : View → State
    as_seen view = record { view = view; opened = opened_by holdings; held = held_by holdings; snapshots = beside.snapshots; plan = plan_by holdings }

    same_state : state_over (seen disk q cut) (rest q cut) holdings beside ≡ old
    same_state = ap as_seen (users_flushed disk q cut closed)

    serves_some : (n : ℕ) → suc n ≡ taken cut → (safe : ℕ → Bool)
        → Serves geo disk q old safe (Flush a) (Number (suc n)) (seen disk q cut) (rest q cut) (state_over (seen disk q cut) (rest q cut) holdings beside) safe (seen disk q cut ∷ [])
    serves_some n count safe =
        subst (λ m. Serves geo disk q old safe (Flush a) (Number m) (seen disk q cut) (rest q cut) (state_over (seen disk q cut) (rest q cut) holdings beside) safe (seen disk q cut ∷ [])) (sym count)
        (subst (λ st. Serves geo disk q old safe (Flush a) (Number (taken cut)) (seen disk q cut) (rest q cut) st safe (seen disk q cut ∷ [])) (sym same_state)
        (FlushesSome a cut closed of_block (omega (arith, count))))

    serves_none : 0 ≡ taken cut → (safe : ℕ → Bool)
        → Serves geo disk q old safe (Flush a) (Number 0) (seen disk q cut) (rest q cut) (state_over (seen disk q cut) (rest q cut) holdings beside) safe []
    serves_none none safe =
        let is = none_taken disk q cut closed (sym none) in
        subst (λ d. Serves geo disk q old safe (Flush a) (Number 0) d (rest q cut) (state_over d (rest q cut) holdings beside) safe []) (sym is.0)
        (subst (λ p. Serves geo disk q old safe (Flush a) (Number 0) disk p (state_over disk p holdings beside) safe []) (sym is.1) (FlushesNone a))

  -- what is said of the device and of what is pending then
  said : (disk' : View) (q' : List Pending) → disk' ≡ seen disk q cut → q' ≡ rest q cut → (P : View → List Pending → Type 0) → P (seen disk q cut) (rest q cut) → P disk' q'
  said disk' q' view pending P p = subst (λ d. P d q') (sym view) (subst (P (seen disk q cut)) (sym pending) p)

module _ {D : Type 0} (device device' : D) (image image' : List (List ℕ)) (held held' : Held) (queue queue' : Queued) (kept : Kept) (holdings : Holdings) (a : ℕ) (low : a < block_count kept.geometry)
    (taken_now : List Bool) (closed : IsClosed (pending_of queue) taken_now) (of_block : IsOfBlock (home_of kept.geometry) a (pending_of queue) taken_now)
    (view : image_view kept.geometry image' ≡ seen (image_view kept.geometry image) (pending_of queue) taken_now)
    (pending : pending_of queue' ≡ rest (pending_of queue) taken_now) where
  abbrev d : View
  d = image_view kept.geometry image

  abbrev p : List Pending
  p = pending_of queue

  abbrev before : Alive D
  before = record { device = device; queue = queue; kept = kept; holdings = holdings }

  abbrev behind : Alive D
  behind = record { device = device'; queue = queue'; kept = kept; holdings = holdings }

  -- the flush of so many updates
  abbrev IsAnswered : ℕ → Type 0
  IsAnswered n = (later : List View) × HeldMore kept.geometry held held' later × Answers image before (Flush a) (Number n) image' behind later

  answered : (n : ℕ) (later : List View) → ((beside : Beside) (safe : ℕ → Bool) → Serves kept.geometry d p (state_over d p holdings beside) safe (Flush a) (Number n)
      (seen d p taken_now) (rest p taken_now) (state_over (seen d p taken_now) (rest p taken_now) holdings beside) safe later)
      → Answers image before (Flush a) (Number n) image' behind later
  answered n later serves beside belongs = record {
    geometry = refl;
    snapshots = refl;
    step = λ stands. said kept holdings d p a taken_now closed of_block (image_view kept.geometry image') (pending_of queue') view pending
        (λ e r. Step kept.geometry (state_over d p holdings beside) (Flush a) (Ok (Number n)) (state_over e r holdings beside))
        (accepts_flush kept.geometry (state_over d p holdings beside) a low, same_state kept holdings d p a taken_now closed of_block beside);
    serves = λ safe stands. said kept holdings d p a taken_now closed of_block (image_view kept.geometry image') (pending_of queue') view pending
        (λ e r. Serves kept.geometry d p (state_over d p holdings beside) safe (Flush a) (Number n) e r (state_over e r holdings beside) safe later) (serves beside safe);
  }

  pub flush_answers : (n : ℕ) → IsImage kept.geometry image' → n ≡ taken taken_now → (n ≡ 0 → images_held held' ≡ images_held held) → (0 < n → images_held held' ≡ images_held held ++ image' ∷ []) → IsAnswered n
  flush_answers zero is count none some = (
    [],
    record { more = []; held_now = none refl ∙ sym (append-nil (images_held held)); views = refl; framed = All-nil (IsImage kept.geometry) },
    answered 0 [] (λ beside. serves_none kept holdings d p a taken_now closed of_block beside count),
  )
  flush_answers (suc n) is count none some = (
    seen d p taken_now ∷ [],
    record { more = image' ∷ []; held_now = some (omega arith); views = ap (λ v. v ∷ []) view; framed = All-cons (IsImage kept.geometry) image' [] is (All-nil (IsImage kept.geometry)) },
    answered (suc n) (seen d p taken_now ∷ []) (λ beside. serves_some kept holdings d p a taken_now closed of_block beside n count),
  )

-- ---- a sync

writes_keep : (kept : Kept) (holdings : Holdings) (disk : View) (q : List Pending) (blocks : List ℕ) (views : List View) (disk' : View) (q' : List Pending) → Writes (home_of kept.geometry) disk q blocks views disk' q' → IsVolume kept holdings q disk → IsVolume kept holdings q' disk'
writes_keep kept holdings disk q blocks views disk' q' WritesNone volume = volume
writes_keep kept holdings disk q blocks views disk' q' (WritesNext {blocks = others} {views = more} a cut closed of_block some writes) volume =
    writes_keep kept holdings (seen disk q cut) (rest q cut) others more disk' q' writes (put kept holdings q disk volume cut closed)

module _ (image image' : List (List ℕ)) (held held' : Held) (queue queue' : Queued) (kept : Kept) (holdings : Holdings) (same : queue.geometry ≡ kept.geometry)
    (wrote : AreWrites queue.geometry image held (pending_of queue) image' held' (pending_of queue')) where
  are : AreWrites kept.geometry image held (pending_of queue) image' held' (pending_of queue')
  are = subst (λ geo. AreWrites geo image held (pending_of queue) image' held' (pending_of queue')) same wrote

  abbrev views : List View
  views = map (image_view kept.geometry) are.more

  pub sync_keeps : IsVolume kept holdings (pending_of queue) (image_view kept.geometry image) → IsVolume kept holdings (pending_of queue') (image_view kept.geometry image')
  sync_keeps = writes_keep kept holdings (image_view kept.geometry image) (pending_of queue) are.blocks views (image_view kept.geometry image') (pending_of queue') are.writes

  pub sync_answers : {D : Type 0} (device device' : D) → IsImage kept.geometry image → pending_of queue' ≡ [] → image_view queue.geometry image' ≡ users_view (image_view queue.geometry image) (pending_of queue)
      → (later : List View) × HeldMore kept.geometry held held' later
      × Answers image (record { device = device; queue = queue; kept = kept; holdings = holdings }) Sync Done image' (record { device = device'; queue = queue'; kept = kept; holdings = holdings }) later
  sync_answers device device' is none view = (
    reverse views,
    record { more = are.more; held_now = are.held_now; views = refl; framed = (are.framed is).1 },
    λ beside belongs. record {
      geometry = refl;
      snapshots = refl;
      step = λ stands. (accepts_sync kept.geometry (old beside), ap (λ p. state_over disk' p holdings beside) none ∙ state_none beside);
      serves = λ safe stands.
          subst (λ p. Serves kept.geometry disk (pending_of queue) (old beside) safe Sync Done disk' p (state_over disk' p holdings beside) safe (reverse views)) (sym none)
          (subst (λ st. Serves kept.geometry disk (pending_of queue) (old beside) safe Sync Done disk' [] st safe (reverse views)) (sym (state_none beside))
          (SyncsAll are.blocks views disk' (subst (Writes (home_of kept.geometry) disk (pending_of queue) are.blocks views disk') none are.writes)));
    },
  )
    where
      disk : View
      disk = image_view kept.geometry image

      disk' : View
      disk' = image_view kept.geometry image'

      old : Beside → State
      old beside = state_over disk (pending_of queue) holdings beside

      as_seen : Beside → View → State
      as_seen beside view = record { view = view; opened = opened_by holdings; held = held_by holdings; snapshots = beside.snapshots; plan = plan_by holdings }

      state_none : (beside : Beside) → state_over disk' [] holdings beside ≡ old beside
      state_none beside = ap (as_seen beside) (subst (λ geo. image_view geo image' ≡ users_view (image_view geo image) (pending_of queue)) same view)
