-- A volume that is sound on its medium stays so, and what a loss of power leaves of it can be mounted.
use Rattle.std.proofs.Common.{◌≡◌, ℕ, suc, ◌<◌, Bool, false, List, [], ◌∷◌, ◌++◌, inl, inr, arith, map, refl, sym, ap, ap₂, ◌∙◌, subst, IsTrue, append-nil, get_or}
use Rattle.std.specs.List.{All}
use Rattle.std.proofs.lemmas.Bool.{cases_eq}
use Rattle.std.proofs.lemmas.List.{append_assoc, map-append}
use Rattle.std.proofs.lemmas.List.Elements.{All-append, All-nil, All-weaker}
use Rattle.model.specs.Image.{IsImage, image_view}
use Rattle.model.specs.Layout.{Geometry}
use Rattle.model.specs.Reach.{IsReachable}
use Rattle.model.specs.Rules.{ObeysRules}
use Rattle.model.specs.View.{View}
use Rattle.device.specs.Media.{Held, Medium, image_of, wrote}
use Rattle.device.specs.Writes.{image_after}
use Rattle.ordering.specs.Cuts.{Pending, IsClosed, seen, rest, joined, users_view}
use Rattle.ordering.specs.Ghosts.{at_rest}
use Rattle.ordering.proofs.Flushes.{joined_closed, joined_seen, users_flushed}
use Rattle.queue_model.specs.Course.{IsSafeImage}
use Rattle.queue_model.specs.Files.{IsFileBlock, Written, shown, updates}
use Rattle.queue_model.specs.History.{none_of}
use Rattle.queue_model.proofs.HistoryLemmas.{joined_rest, none_closed, none_seen}
use Rattle.power_cut.specs.Epochs.{IsEpoch}
use Rattle.power_cut.proofs.EpochLemmas.{together_closed}
use Rattle.courses.specs.Leads.{IsMoment}
use Rattle.cut_courses.specs.Durably.{IsDurably}
use Rattle.courses.proofs.LifeCourses.{anew_moment, mount_moment}
use Rattle.cut_courses.proofs.Along.{answered, cut_safely, left_safely, put_moment, users_same}
use Rattle.softdep.specs.Queued.{Queued, AreClosed, unsynced_of, pending_of, after_flush, fresh_queue}
use Rattle.softdep.specs.OnMedium.{IsOnMedium, KeepsFrame}
use Rattle.softdep.specs.Syncing.{HasPut, HasHeld, IsMediumOf}
use Rattle.softdep.proofs.Frames.{left_frames}
use Rattle.softdep.proofs.Mediums.{answers_view}
use Rattle.softdep.proofs.Queues.{pending_rest}
use Rattle.softdep.proofs.Swept.{held_more, held_same, held_nothing as put_held_nothing, put_after}
use Rattle.live_states.specs.Holdings.{held_by}
use Rattle.frozen.specs.Kept.{Kept}
use Rattle.live.specs.Alive.{Alive}
use Rattle.live.specs.Durable.{AddsOnly, GoesSoundly, WritesLooksOf, HeldSafely, IsSound, IsSoundOn, LeavesOwn, LeavesSafe, LeavesShown, MayHave, Owns, OwnsMore, Piece, Put, PutAlong, Starts}
use Rattle.live.specs.Mounting.{IsMountable}
use Rattle.live.proofs.Owning.{OwnsWith, along_then, first_member, later_member, left_later, more_left, owns_first, owns_put}

-- ---- what a loss of power leaves

pub leaves_safe : (m : Medium) (geo : Geometry) (queue : Queued) (held safe : ℕ → Bool) → IsSound m geo queue held safe → LeavesSafe geo safe m
leaves_safe m geo queue held safe s left may =
    let on = s.on in
    let epoch = subst (λ x. IsEpoch x (image_view x m.durable) (unsynced_of queue) on.puts) s.geometry on.epoch in
    let shown = left_safely geo m (unsynced_of queue) (image_view geo (image_of m)) (pending_of queue) held safe s.durably on.puts epoch on.writes on.within left may in (
      record {
        is_image = subst (λ x. IsImage x left) s.geometry (left_frames queue.geometry m left on.image on.frames may);
        obeys = subst (ObeysRules geo) (sym shown.since) shown.safe_image.rules;
      },
      λ f t. subst (λ v. IsReachable geo v f) (sym shown.since) (shown.safe_image.files f t),
    )

pub leaves_shown : (m : Medium) (geo : Geometry) (queue : Queued) (held safe : ℕ → Bool) (s : IsSound m geo queue held safe) → LeavesShown geo s.durably.mount s.durably.history safe m
leaves_shown m geo queue held safe s left may =
    let on = s.on in
    let epoch = subst (λ x. IsEpoch x (image_view x m.durable) (unsynced_of queue) on.puts) s.geometry on.epoch in
    let shown = left_safely geo m (unsynced_of queue) (image_view geo (image_of m)) (pending_of queue) held safe s.durably on.puts epoch on.writes on.within left may in
    (shown.whole, shown.since, shown.safe_image)

-- with bytes in each block of a file that are its own, where files have them
pub leaves_own : (m : Medium) (geo : Geometry) (queue : Queued) (held safe : ℕ → Bool) (s : IsSound m geo queue held safe) (puts : List Put) → Owns geo s.durably.mount s.durably.history s.durably.cut puts
    → LeavesOwn geo s.durably.mount s.durably.history puts m
leaves_own m geo queue held safe s puts o left may =
    let on = s.on in
    let d = s.durably in
    let epoch = subst (λ x. IsEpoch x (image_view x m.durable) (unsynced_of queue) on.puts) s.geometry on.epoch in
    let is = left_safely geo m (unsynced_of queue) (image_view geo (image_of m)) (pending_of queue) held safe d on.puts epoch on.writes on.within left may in (
      is.whole,
      is.since,
      is.safe_image.closed,
      λ n k b f. subst (λ v. MayHave geo d.mount puts n (shown d.mount d.history is.whole n) k (v.bytes b)) (sym is.since)
          (o.cuts is.whole is.safe_image.closed is.holds n k b (subst (λ v. IsFileBlock geo v n k b) is.since f)),
    )

-- what is written later is not in it
safe_later : (geo : Geometry) (view : View) (h : List Written) (cut : List Bool) (safe : ℕ → Bool) (w : Written) → IsSafeImage geo view h cut safe → IsSafeImage geo view (w ∷ h) (false ∷ cut) safe
safe_later geo view h cut safe w s = record {
  closed = s.closed;
  rules = s.rules;
  files = s.files;
  own = λ n k b f. elim (s.own n k b f) [ inl one ↦ inl (suc one.0, one.1, one.2, one.3, one.4) | inr had ↦ inr had ];
}

shown_later : (geo : Geometry) (view : View) (added h : List Written) (safe : ℕ → Bool) (m : Medium) → LeavesShown geo view h safe m → LeavesShown geo view (added ++ h) safe m
shown_later geo view [] h safe m shown = shown
shown_later geo view (w ∷ added) h safe m shown = λ image may.
    let one = shown_later geo view added h safe m shown image may in
    (false ∷ one.0, one.1, safe_later geo view (added ++ h) one.0 safe w one.2)

-- and fewer files are safe
shown_fewer : (geo : Geometry) (view : View) (h : List Written) (safe fewer : ℕ → Bool) (m : Medium) → ((f : ℕ) → IsTrue (fewer f) → IsTrue (safe f)) → LeavesShown geo view h safe m → LeavesShown geo view h fewer m
shown_fewer geo view h safe fewer m less shown = λ image may.
    let one = shown image may in
    (one.0, one.1, record { closed = one.2.closed; rules = one.2.rules; files = λ f t. one.2.files f (less f t); own = one.2.own })

-- a mount, what was written since, and what of it is durable
pub record Base : Type 0 where
  pub geometry : Geometry
  pub mount : View
  pub history : List Written
  pub cut : List Bool

-- those of a volume that is sound
abbrev pub base : {m : Medium} {geo : Geometry} {queue : Queued} {held safe : ℕ → Bool} → IsSound m geo queue held safe → Base
base {geo = geo} s = record { geometry = geo; mount = s.durably.mount; history = s.durably.history; cut = s.durably.cut }

-- A volume is sound since this mount, and this was written since; where files had their own bytes they have them, with these pieces among them.
pub record Since (from : Base) (asked : List Piece) (view : View) (h : List Written) (m : Medium) (geo : Geometry) (queue : Queued) (held safe : ℕ → Bool) : Type 0 where
  pub sound : IsSound m geo queue held safe
  pub mount : sound.durably.mount ≡ view
  pub history : sound.durably.history ≡ h
  pub owns : (puts : List Put) → Owns from.geometry from.mount from.history from.cut puts → OwnsWith from.geometry sound.durably.mount from.history sound.durably.history sound.durably.cut asked puts

-- with no medium since
pub owned : {from : Base} {view : View} {h : List Written} {m : Medium} {geo : Geometry} {queue : Queued} {held safe : ℕ → Bool} (asked : List Piece) (since : Since from asked view h m geo queue held safe)
    (puts : List Put) → Owns from.geometry from.mount from.history from.cut puts → OwnsMore from.geometry since.sound.durably.mount from.history since.sound.durably.history since.sound.durably.cut asked puts []
owned {from = from} asked since puts o =
    let own = since.owns puts o in
    record { added = own.0; pieces = own.1; along = own.2; owns = own.3; each = All-nil (LeavesOwn from.geometry since.sound.durably.mount since.sound.durably.history (own.0 ++ puts)) }

-- So it is since now, with nothing written since.
pub record Anew (view : View) (m : Medium) (geo : Geometry) (queue : Queued) (held safe : ℕ → Bool) : Type 0 where
  pub sound : IsSound m geo queue held safe
  pub mount : sound.durably.mount ≡ view
  pub history : sound.durably.history ≡ []
  pub owns : Owns geo sound.durably.mount sound.durably.history sound.durably.cut []

-- ---- writes, and the word of the device

module _ (m : Medium) (geo : Geometry) (queue : Queued) (held safe : ℕ → Bool) (s : IsSound m geo queue held safe)
    (queue' : Queued) (m' : Medium) (put : HasPut queue queue') (on' : IsOnMedium s.mounted queue' m') where
  abbrev us : List Pending
  us = updates queue.written

  abbrev D : View
  D = image_view geo m.durable

  abbrev D' : View
  D' = image_view geo m'.durable

  abbrev U : List Pending
  U = unsynced_of queue

  geometry' : queue'.geometry ≡ geo
  geometry' = put.geometry ∙ s.geometry

  closed' : AreClosed queue'
  closed' = record {
    durable = subst (λ h. IsClosed (updates h) queue'.durable) (sym put.written)
        (subst (IsClosed (updates queue.written)) (sym put.durable) (joined_closed (updates queue.written) queue.durable put.synced s.closed.durable put.synced_closed));
    loose = subst (IsClosed (unsynced_of queue')) on'.loose (together_closed queue'.geometry (image_view queue'.geometry m'.durable) (unsynced_of queue') on'.puts on'.epoch);
  }

  was : image_view geo m.durable ≡ seen s.mounted (updates queue.written) queue.durable
  was = subst (λ x. image_view x m.durable ≡ seen s.mounted (updates queue.written) queue.durable) s.geometry s.on.durable

  is : image_view geo m'.durable ≡ seen (image_view geo m.durable) (unsynced_of queue) put.synced
  is = subst (λ x. image_view x m'.durable ≡ seen s.mounted (updates queue'.written) queue'.durable) geometry' on'.durable
      ∙ ap₂ (λ h c. seen s.mounted (updates h) c) put.written put.durable ∙ joined_seen s.mounted us queue.durable put.synced s.closed.durable put.synced_closed
      ∙ ap (λ v. seen v U put.synced) (sym was)

  left : unsynced_of queue' ≡ rest (unsynced_of queue) put.synced
  left = ap₂ (λ h c. rest (updates h) c) put.written put.durable ∙ joined_rest us queue.durable put.synced s.closed.durable put.synced_closed

  answers' : image_view geo (image_of m') ≡ seen (image_view geo m'.durable) (unsynced_of queue') queue'.loose
  answers' = subst (λ x. image_view x (image_of m') ≡ seen (image_view x m'.durable) (unsynced_of queue') queue'.loose) geometry' (answers_view s.mounted queue' m' on')

  durably' : (d : IsDurably geo (image_view geo m'.durable) (unsynced_of queue') (image_view geo (image_of m')) (pending_of queue') held safe) × (d.mount ≡ s.durably.mount) × (d.history ≡ s.durably.history)
      × ((puts : List Put) → Owns geo s.durably.mount s.durably.history s.durably.cut puts → OwnsWith geo d.mount s.durably.history d.history d.cut [] puts)
  durably' =
      let d = s.durably in
      let next = joined (updates d.history) d.cut put.synced in
      let moment = put_moment geo d.mount d.history d.cut held safe D U d.moment put.synced put.synced_closed in (
        record {
          mount = d.mount;
          history = d.history;
          cut = next;
          moment = subst (λ v. IsMoment geo d.mount d.history next (at_rest held safe) v (unsynced_of queue')) (sym is) (subst (IsMoment geo d.mount d.history next (at_rest held safe) (seen D U put.synced)) (sym left) moment);
          loose = queue'.loose;
          closed = closed'.loose;
          answers = answers';
          pending = pending_rest queue' closed';
        },
        refl,
        refl,
        λ puts o. ([], refl, Starts, owns_put geo d.mount d.history d.cut put.synced puts d.moment.good.closed (subst (λ p. IsClosed p put.synced) (sym d.moment.pending) put.synced_closed) o),
      )

  users' : users_view (image_view geo (image_of m')) (pending_of queue') ≡ users_view (image_view geo (image_of m)) (pending_of queue)
  users' =
      sym (users_same geo (image_view geo m'.durable) (unsynced_of queue') (image_view geo (image_of m')) (pending_of queue') held safe durably'.0)
      ∙ ap₂ users_view is left ∙ users_flushed D U put.synced put.synced_closed
      ∙ users_same geo D U (image_view geo (image_of m)) (pending_of queue) held safe s.durably

  pub put_since : Since (base s) [] s.durably.mount s.durably.history m' geo queue' held safe
  put_since = record {
    sound = record {
      geometry = geometry';
      closed = closed';
      durably = durably'.0;
      files = λ f t. ap (λ (v : View). (v.inode f).mode) users' ∙ s.files f t;
      mounted = s.mounted;
      on = on';
    };
    mount = durably'.1;
    history = durably'.2;
    owns = durably'.3;
  }

  pub put_sound : IsSound m' geo queue' held safe
  put_sound = put_since.sound

-- each medium since leaves what is safe
pub held_safe : (m : Medium) (geo : Geometry) (queue : Queued) (held safe : ℕ → Bool) (s : IsSound m geo queue held safe) (more : List Medium) → All (IsMediumOf s.mounted queue) more
    → All (LeavesSafe geo safe) more
held_safe m geo queue held safe s more each =
    λ k d low. let one = each k d low in
    leaves_safe _ geo one.queue held safe (put_sound m geo queue held safe s one.queue _ one.put one.on)

-- and what a closed cut shows
pub held_shown : (m : Medium) (geo : Geometry) (queue : Queued) (held safe : ℕ → Bool) (s : IsSound m geo queue held safe) (more : List Medium) → All (IsMediumOf s.mounted queue) more
    → All (LeavesShown geo s.durably.mount s.durably.history safe) more
held_shown m geo queue held safe s more each =
    λ k d low.
    let one = each k d low in
    let there = put_since m geo queue held safe s one.queue _ one.put one.on in
    let at = get_or more k d in
    subst (λ h. LeavesShown geo s.durably.mount h safe at) there.history (subst (λ v. LeavesShown geo v there.sound.durably.history safe at) there.mount (leaves_shown at geo one.queue held safe there.sound))

none_added : (added : List Put) → map (λ (put : Put). put.piece) added ≡ [] → added ≡ []
none_added [] e = refl
none_added (a ∷ added) e = cc

-- and the files' own bytes
held_own : (m : Medium) (geo : Geometry) (queue : Queued) (held safe : ℕ → Bool) (s : IsSound m geo queue held safe) (puts : List Put) → Owns geo s.durably.mount s.durably.history s.durably.cut puts
    → (more : List Medium) → All (IsMediumOf s.mounted queue) more → All (LeavesOwn geo s.durably.mount s.durably.history puts) more
held_own m geo queue held safe s puts o more each =
    λ k d low.
    let one = each k d low in
    let there = put_since m geo queue held safe s one.queue _ one.put one.on in
    let at = get_or more k d in
    let own = there.owns puts o in
    let now = subst (λ l. Owns geo there.sound.durably.mount there.sound.durably.history there.sound.durably.cut (l ++ puts)) (none_added own.0 own.1) own.3 in
    subst (λ h. LeavesOwn geo s.durably.mount h puts at) there.history (subst (λ v. LeavesOwn geo v there.sound.durably.history puts at) there.mount (leaves_own at geo one.queue held safe there.sound puts now))

-- ---- a volume goes on

pub held_nothing : (geo : Geometry) (held held' : Held) (safe : ℕ → Bool) → held'.media ≡ held.media → HeldSafely geo held held' safe
held_nothing geo held held' safe same = record { more = []; media = same ∙ sym (append-nil held.media); each = All-nil (LeavesSafe geo safe) }

first_looking : (more views : List View) (w : Written) → WritesLooksOf more w → WritesLooksOf (more ++ views) w
first_looking more views w has n x is = let one = has n x is in (one.0, first_member more views one.0 one.1, one.2)

later_looking : (more views : List View) (w : Written) → WritesLooksOf views w → WritesLooksOf (more ++ views) w
later_looking more views w has n x is = let one = has n x is in (one.0, later_member more views one.0 one.1, one.2)

module _ {D : Type 0} where
  pub goes_then : (held held1 held2 : Held) (old mid new : Alive D) (safe safe1 safe2 : ℕ → Bool) (asked more : List Piece) (views others : List View) → GoesSoundly held old held1 mid safe safe1 asked views → GoesSoundly held1 mid held2 new safe1 safe2 more others
      → GoesSoundly held old held2 new safe safe2 (more ++ asked) (others ++ views)
  goes_then held held1 held2 old mid new safe safe1 safe2 asked more views others first later = record {
    geometry = later.geometry ∙ first.geometry;
    fewer = λ f t. first.fewer f (later.fewer f t);
    sound = λ s.
        let one = first.sound s in
        let two = later.sound one.0 in
        let geo = old.kept.geometry in
        let behind : HeldSafely geo held1 held2 safe2 = subst (λ x. HeldSafely x held1 held2 safe2) first.geometry two.1 in (
          two.0,
          record {
            more = one.1.more ++ behind.more;
            media = behind.media ∙ ap (λ l. l ++ behind.more) one.1.media ∙ append_assoc held.media one.1.more behind.more;
            each = All-append (LeavesSafe geo safe2) one.1.more behind.more (λ k d low image may. let was = one.1.each k d low image may in (was.0, λ f t. was.1 f (later.fewer f t))) behind.each;
          },
        );
    adds = λ s.
        let one = (first.sound s).0 in
        let before = first.adds s in
        let behind = later.adds one in
        let geo = old.kept.geometry in
        let all : behind.added ++ one.durably.history ≡ (behind.added ++ before.added) ++ s.durably.history =
        ap (λ h. behind.added ++ h) before.history ∙ sym (append_assoc behind.added before.added s.durably.history) in
        record {
          mount = behind.mount ∙ before.mount;
          added = behind.added ++ before.added;
          history = behind.history ∙ all;
          more = before.more ++ behind.more;
          media = behind.media ∙ ap (λ l. l ++ behind.more) before.media ∙ append_assoc held.media before.more behind.more;
          each = All-append (LeavesShown geo s.durably.mount ((behind.added ++ before.added) ++ s.durably.history) safe2) before.more behind.more
              (λ k d low. let at = get_or before.more k d in
              subst (λ h. LeavesShown geo s.durably.mount h safe2 at) (sym (append_assoc behind.added before.added s.durably.history))
              (shown_later geo s.durably.mount behind.added (before.added ++ s.durably.history) safe2 at (shown_fewer geo s.durably.mount (before.added ++ s.durably.history) safe1 safe2 at later.fewer (before.each k d low))))
              (λ k d low. let at = get_or behind.more k d in
              subst (λ h. LeavesShown geo s.durably.mount h safe2 at) all (subst (λ v. LeavesShown geo v (behind.added ++ one.durably.history) safe2 at) before.mount
              (subst (λ x. LeavesShown x one.durably.mount (behind.added ++ one.durably.history) safe2 at) first.geometry (behind.each k d low))));
        };
    owns = λ s puts o.
        let one = (first.sound s).0 in
        let two = (later.sound one).0 in
        let before = first.adds s in
        let behind = later.adds one in
        let geo = old.kept.geometry in
        let was = first.owns s puts o in
        let now = later.owns one (was.added ++ puts) (subst (λ x. Owns x one.durably.mount one.durably.history one.durably.cut (was.added ++ puts)) (sym first.geometry) was.owns) in
        let all = sym (append_assoc now.added was.added puts) in
        record {
          added = now.added ++ was.added;
          pieces = map-append (λ (put : Put). put.piece) now.added was.added ∙ ap₂ (λ xs ys. xs ++ ys) now.pieces was.pieces;
          along = along_then two.durably.mount s.durably.history one.durably.history two.durably.history was.added now.added
              (subst (λ v. PutAlong v s.durably.history one.durably.history was.added) (sym behind.mount) was.along) now.along;
          owns = subst (λ l. Owns geo two.durably.mount two.durably.history two.durably.cut l) all (subst (λ x. Owns x two.durably.mount two.durably.history two.durably.cut (now.added ++ (was.added ++ puts))) first.geometry now.owns);
          each = All-append (LeavesOwn geo two.durably.mount two.durably.history ((now.added ++ was.added) ++ puts)) before.more behind.more
              (λ k d low. let at = get_or before.more k d in
              subst (λ l. LeavesOwn geo two.durably.mount two.durably.history l at) all
              (subst (λ v. LeavesOwn geo v two.durably.history (now.added ++ (was.added ++ puts)) at) (sym behind.mount)
              (subst (λ h. LeavesOwn geo one.durably.mount h (now.added ++ (was.added ++ puts)) at) (sym behind.history)
              (left_later geo one.durably.mount behind.added one.durably.history (now.added ++ (was.added ++ puts)) at
              (more_left geo one.durably.mount (was.added ++ puts) now.added one.durably.history at (was.each k d low))))))
              (λ k d low. let at = get_or behind.more k d in
              subst (λ l. LeavesOwn geo two.durably.mount two.durably.history l at) all
              (subst (λ x. LeavesOwn x two.durably.mount two.durably.history (now.added ++ (was.added ++ puts)) at) first.geometry (now.each k d low)));
        };
    looking = λ s.
        let one = (first.sound s).0 in
        let before = (first.adds s).added in
        let behind = (later.adds one).added in
        All-append (WritesLooksOf (others ++ views)) behind before (All-weaker (WritesLooksOf others) (WritesLooksOf (others ++ views)) (first_looking others views) behind (later.looking one))
        (All-weaker (WritesLooksOf views) (WritesLooksOf (others ++ views)) (later_looking others views) before (first.looking s));
  }

  -- nothing was written and nothing added
  abbrev Still : (held held' : Held) (old new : Alive D) (safe : ℕ → Bool) → IsSoundOn held.now old safe → Type 0
  Still held held' old new safe s = Since (base s) [] s.durably.mount s.durably.history held'.now new.kept.geometry new.queue (held_by new.holdings) safe

  abbrev pub adds_nothing : (held held' : Held) (old new : Alive D) (safe : ℕ → Bool) (s : IsSoundOn held.now old safe) (s' : Still held held' old new safe s) → held'.media ≡ held.media → AddsOnly held old held' new safe safe s s'.sound
  adds_nothing held held' old new safe s s' same = record {
    mount = s'.mount;
    added = [];
    history = s'.history;
    more = [];
    media = same ∙ sym (append-nil held.media);
    each = All-nil (LeavesShown old.kept.geometry s.durably.mount s.durably.history safe);
  }

  -- nothing changed
  still_since : (held held' : Held) (old new : Alive D) → held' ≡ held → new.queue ≡ old.queue → new.kept.geometry ≡ old.kept.geometry → held_by new.holdings ≡ held_by old.holdings → (safe : ℕ → Bool) (s : IsSoundOn held.now old safe)
      → Still held held' old new safe s
  still_since held held' old new same queue geometry holds safe s =
      subst (λ (h : Held). Since (base s) [] s.durably.mount s.durably.history h.now new.kept.geometry new.queue (held_by new.holdings) safe) (sym same)
      (subst (λ x. Since (base s) [] s.durably.mount s.durably.history held.now x new.queue (held_by new.holdings) safe) (sym geometry)
      (subst (λ w. Since (base s) [] s.durably.mount s.durably.history held.now old.kept.geometry w (held_by new.holdings) safe) (sym queue)
      (subst (λ b. Since (base s) [] s.durably.mount s.durably.history held.now old.kept.geometry old.queue b safe) (sym holds) (record { sound = s; mount = refl; history = refl; owns = λ puts o. ([], refl, Starts, o) }))))

  pub goes_still : (held held' : Held) (old new : Alive D) → held' ≡ held → new.queue ≡ old.queue → new.kept.geometry ≡ old.kept.geometry → held_by new.holdings ≡ held_by old.holdings → (safe : ℕ → Bool) → GoesSoundly held old held' new safe safe [] []
  goes_still held held' old new same queue geometry holds safe = record {
    geometry = geometry;
    fewer = λ f t. t;
    sound = λ s. ((still_since held held' old new same queue geometry holds safe s).sound, held_nothing old.kept.geometry held held' safe (ap (λ (h : Held). h.media) same));
    adds = λ s. adds_nothing held held' old new safe s (still_since held held' old new same queue geometry holds safe s) (ap (λ (h : Held). h.media) same);
    owns = λ s puts o. owned [] (still_since held held' old new same queue geometry holds safe s) puts o;
    looking = λ s. All-nil (WritesLooksOf []);
  }

  -- writes, and the word of the device
  goes_put : (held held' : Held) (old new : Alive D) → new.kept.geometry ≡ old.kept.geometry → held_by new.holdings ≡ held_by old.holdings → (safe : ℕ → Bool)
      → ((s : IsSoundOn held.now old safe) → HasPut old.queue new.queue × IsOnMedium s.mounted new.queue held'.now × HasHeld s.mounted old.queue held held') → GoesSoundly held old held' new safe safe [] []
  goes_put held held' old new geometry holds safe done =
      let geo = old.kept.geometry in
      let put : (s : IsSoundOn held.now old safe) → Still held held' old new safe s = λ s.
      let now = done s in
      subst (λ x. Since (base s) [] s.durably.mount s.durably.history held'.now x new.queue (held_by new.holdings) safe) (sym geometry)
      (subst (λ b. Since (base s) [] s.durably.mount s.durably.history held'.now geo new.queue b safe) (sym holds) (put_since held.now geo old.queue (held_by old.holdings) safe s new.queue held'.now now.0 now.1)) in
      record {
        geometry = geometry;
        fewer = λ f t. t;
        sound = λ s.
            let now = done s in
            ((put s).sound, record { more = now.2.more; media = now.2.media; each = held_safe held.now geo old.queue (held_by old.holdings) safe s now.2.more now.2.each });
        adds = λ s.
            let now = done s in
            record {
              mount = (put s).mount;
              added = [];
              history = (put s).history;
              more = now.2.more;
              media = now.2.media;
              each = held_shown held.now geo old.queue (held_by old.holdings) safe s now.2.more now.2.each;
            };
        owns = λ s puts o.
            let now = done s in
            let own = (put s).owns puts o in
            let d = (put s).sound.durably in
            record {
              added = own.0;
              pieces = own.1;
              along = own.2;
              owns = own.3;
              each = λ k d' low. let at = get_or now.2.more k d' in
                  more_left geo d.mount puts own.0 d.history at
                  (subst (λ h. LeavesOwn geo d.mount h puts at) (sym (put s).history)
                  (subst (λ v. LeavesOwn geo v s.durably.history puts at) (sym (put s).mount) (held_own held.now geo old.queue (held_by old.holdings) safe s puts o now.2.more now.2.each k d' low)));
            };
        looking = λ s. All-nil (WritesLooksOf []);
      }

  pub goes_synced : (held held' : Held) (old new : Alive D) → new.kept ≡ old.kept → new.holdings ≡ old.holdings → HasPut old.queue new.queue
      → ((mounted : View) → IsOnMedium mounted old.queue held.now → IsOnMedium mounted new.queue held'.now) → ((mounted : View) → IsOnMedium mounted old.queue held.now → HasHeld mounted old.queue held held')
      → (safe : ℕ → Bool) → GoesSoundly held old held' new safe safe [] []
  goes_synced held held' old new kept holdings put medium more safe =
      goes_put held held' old new (ap (λ (k : Kept). k.geometry) kept) (ap held_by holdings) safe (λ s. (put, medium s.mounted s.on, more s.mounted s.on))

  pub goes_flushed : (held held' : Held) (old new : Alive D) → new.kept ≡ old.kept → new.holdings ≡ old.holdings → (order : Bool) (a count : ℕ) → new.queue ≡ after_flush order old.queue a
      → (count ≡ 0 → held'.media ≡ held.media) → (0 < count → (block : List ℕ) × (held' ≡ wrote order held a block)) → ((mounted : View) → IsOnMedium mounted old.queue held.now → IsOnMedium mounted new.queue held'.now)
      → (safe : ℕ → Bool) → GoesSoundly held old held' new safe safe [] []
  goes_flushed held held' old new kept holdings order a count flushed still wrote_on medium safe =
      goes_put held held' old new (ap (λ (k : Kept). k.geometry) kept) (ap held_by holdings) safe (λ s.
      let put = subst (HasPut old.queue) (sym flushed) (put_after order old.queue s.closed a) in
      let on = medium s.mounted s.on in (
        put,
        on,
        elim (cases_eq count 0) [
          | inl zero ↦ held_same s.mounted old.queue held held held' (put_held_nothing s.mounted old.queue held) (still zero)
          | inr some ↦
              let w = wrote_on (omega (arith, some)) in
              held_more s.mounted old.queue held held held' order a w.0 (put_held_nothing s.mounted old.queue held) w.1 (record { queue = new.queue; put = put; on = on })
        ],
      ))

  -- where no record was written, each has the size of any views
  pub goes_seen : (held held' : Held) (old new : Alive D) (safe safe' : ℕ → Bool) (asked : List Piece) (views : List View) → GoesSoundly held old held' new safe safe' asked [] → GoesSoundly held old held' new safe safe' asked views
  goes_seen held held' old new safe safe' asked views goes = record {
    geometry = goes.geometry;
    fewer = goes.fewer;
    sound = goes.sound;
    adds = goes.adds;
    owns = goes.owns;
    looking = λ s. All-weaker (WritesLooksOf []) (WritesLooksOf views) (first_looking [] views) (goes.adds s).added (goes.looking s);
  }

-- ---- where a volume begins

pub fresh_sound : (m : Medium) (geo : Geometry) (queue : Queued) (held safe : ℕ → Bool) → queue ≡ fresh_queue geo → IsMountable geo (image_of m) → m.loose ≡ []
    → ((f : ℕ) → IsTrue (safe f) → IsReachable geo (image_view geo (image_of m)) f × (((image_view geo (image_of m)).inode f).mode ≡ 1)) → IsSound m geo queue held safe
fresh_sound m geo queue held safe fresh mounts none files =
    let disk = image_view geo (image_of m) in
    let same : m.durable ≡ image_of m = sym (ap (image_after m.durable) none) in
    subst (λ w. IsSound m geo w held safe) (sym fresh) (record {
      geometry = refl;
      closed = record { durable = tt; loose = tt };
      durably = subst (λ i. IsDurably geo (image_view geo i) [] disk [] held safe) (sym same) (answered geo disk [] [] disk [] held safe (mount_moment geo disk held safe mounts.obeys (λ f t. (files f t).0)));
      files = λ f t. (files f t).1;
      mounted = image_view geo m.durable;
      on = record {
        image = subst (IsImage geo) (sym same) mounts.is_image;
        frames = subst (All (KeepsFrame geo)) (sym none) (All-nil (KeepsFrame geo));
        durable = refl;
        puts = [];
        epoch = tt;
        writes = none;
        within = tt;
        loose = refl;
      };
    })

-- With nothing left that is not durable, any files that are reachable then may be those that no loss of power is to lose.
pub sound_anew : (m : Medium) (geo : Geometry) (queue : Queued) (held safe : ℕ → Bool) → IsSound m geo queue held safe → unsynced_of queue ≡ []
    → (more : ℕ → Bool) → ((f : ℕ) → IsTrue (more f) → IsReachable geo (image_view geo (image_of m)) f × (((image_view geo (image_of m)).inode f).mode ≡ 1)) → IsSound m geo queue held more
sound_anew m geo queue held safe s none more files =
    let d = s.durably in
    let durable = image_view geo m.durable in
    let disk = image_view geo (image_of m) in
    let same : disk ≡ durable = d.answers ∙ ap (λ q. seen durable q d.loose) none in
    let all : pending_of queue ≡ [] = d.pending ∙ ap (λ q. rest q d.loose) none in
    record {
      geometry = s.geometry;
      closed = s.closed;
      durably = record {
        mount = d.mount;
        history = d.history;
        cut = d.cut;
        moment = subst (IsMoment geo d.mount d.history d.cut (at_rest held more) durable) (sym none)
            (anew_moment geo d.mount d.history d.cut held safe durable (subst (IsMoment geo d.mount d.history d.cut (at_rest held safe) durable) none d.moment) more (λ f t. subst (λ v. IsReachable geo v f) same (files f t).0));
        loose = d.loose;
        closed = d.closed;
        answers = d.answers;
        pending = d.pending;
      };
      files = λ f t. ap (λ q. ((users_view disk q).inode f).mode) all ∙ (files f t).1;
      mounted = s.mounted;
      on = s.on;
    }

-- With nothing left that is not durable, a volume is sound since there: of what users see then, with nothing written since.
pub sound_from_here : (m : Medium) (geo : Geometry) (queue : Queued) (held safe : ℕ → Bool) → IsSound m geo queue held safe → unsynced_of queue ≡ []
    → (more : ℕ → Bool) → ((f : ℕ) → IsTrue (more f) → IsReachable geo (image_view geo (image_of m)) f × (((image_view geo (image_of m)).inode f).mode ≡ 1)) → Anew (image_view geo (image_of m)) m geo queue held more
sound_from_here m geo queue held safe s none more files =
    let d = s.durably in
    let durable = image_view geo m.durable in
    let U = unsynced_of queue in
    let disk = image_view geo (image_of m) in
    let same : disk ≡ durable = d.answers ∙ ap (λ q. seen durable q d.loose) none in
    let all : pending_of queue ≡ [] = d.pending ∙ ap (λ q. rest q d.loose) none in
    let shown = cut_safely geo durable U disk (pending_of queue) held safe d (none_of U) (none_closed U) in
    let obeys : ObeysRules geo durable = subst (ObeysRules geo) (sym shown.since ∙ none_seen durable U) shown.safe_image.rules in
    let moment : IsMoment geo disk [] [] (at_rest held more) disk [] = mount_moment geo disk held more (subst (ObeysRules geo) (sym same) obeys) (λ f t. (files f t).0) in
    record {
      sound = record {
        geometry = s.geometry;
        closed = s.closed;
        durably = record {
          mount = disk;
          history = [];
          cut = [];
          moment = subst (IsMoment geo disk [] [] (at_rest held more) durable) (sym none) (subst (λ v. IsMoment geo disk [] [] (at_rest held more) v []) same moment);
          loose = d.loose;
          closed = d.closed;
          answers = d.answers;
          pending = d.pending;
        };
        files = λ f t. ap (λ q. ((users_view disk q).inode f).mode) all ∙ (files f t).1;
        mounted = s.mounted;
        on = s.on;
      };
      mount = refl;
      history = refl;
      owns = owns_first geo disk;
    }
