use Rattle.std.proofs.Common.{◌≡◌, ℕ, ◌+◌, ◌<◌, ◌≤◌, Bool, true, false, List, [], ◌∷◌, ◌++◌, inl, inr, refl, sym, ap, ◌∙◌, subst, length, length-append, slice_set, arith}
use Rattle.std.proofs.lemmas.List.{length-set}
use Rattle.model.specs.Layout.{block_count}
use Rattle.model.specs.View.{View}
use Rattle.model.specs.Image.{image_view}
use Rattle.ordering.specs.Cuts.{rest, seen}
use Rattle.queue_model.specs.Flush.{taken}
use Rattle.device.specs.Media.{Held, images_held, written, wrote}
use Rattle.device.proofs.MediaLemmas.{images_held-write}
use Rattle.softdep.specs.Queued.{Queued, IsSettled, pending_of, next_cut, settled, after_flush}
use Rattle.softdep.specs.OnMedium.{IsOnMedium}
use Rattle.softdep.specs.Syncing.{HasPut, HasHeld, AreWrites, AreFlushes}
use Rattle.softdep.proofs.Queues.{geometry_after, next_is_ready, least_is_ready, nothing_pending, order_settles, pending_settled, settled_is}
use Rattle.softdep.proofs.Swept.{below_next, nothing_more, fewer, put_nothing, put_then, put_after, put_settled, held_nothing, held_same, held_more}
use Rattle.softdep.proofs.Synced.{writes_nothing, writes_append, writes_one, writes_synced, flushes_nothing, flushes_append, flushes_one, flushes_synced}
use Rattle.softdep.proofs.queue.Queue.sweep.Given.{Over}
use Rattle.softdep.proofs.queue.Queue.sweep.Goals as goal
use Rattle.softdep.proofs.queue.Queue.sweep.Goals.{then-KEEPS_ORDER, else-KEEPS_ORDER}

pub loop-address-init : goal.loop-address-init
loop-address-init g c = record {
  closed = c.pending.ensures.closed;
  put = put_nothing c.args.self.now c.pending.ensures.closed;
  count = c.requires;
  shorter = inl refl;
  begins = λ keeps. refl;
  below = λ b low. absurd (omega (arith, low));
  few = omega arith;
  failures = refl;
  honest = λ h. h;
  writes = λ h. writes_nothing c.args.self.now.geometry (g.D.Device.image c.args.device.now) (g.D.Device.held c.args.device.now) (pending_of c.args.self.now);
  flushes = λ h keeps is. (is, flushes_nothing c.args.self.now.geometry (g.D.Device.image c.args.device.now) (g.D.Device.held c.args.device.now) (pending_of c.args.self.now));
  medium = λ h mounted on. on;
  held = λ h mounted on. held_nothing mounted c.args.self.now (g.D.Device.held c.args.device.now);
}

-- ---- one write

module _ (g : Over) (c : goal.In_ok-flush g) where
  abbrev w : Queued
  w = c.loop-address.self

  abbrev a : ℕ
  a = c.in-Some.address

  abbrev order : Bool
  order = g.D.Device.KEEPS_ORDER

  some : 1 ≤ taken (next_cut c.loop-address.self c.in-Some.address)
  some = c.in-Some.ensures.next.has

  less : length (pending_of c.flush.new.self) + taken (next_cut c.loop-address.self c.in-Some.address) ≡ length (pending_of c.loop-address.self)
  less =
      let f = fewer order w c.in-Some.ensures.closed a in
      let same = ap (λ (x : Queued). length (pending_of x)) c.in_ok-flush.ensures.flushed in
      omega (arith, f, same)

  wrote_block : (block : List ℕ) × (g.D.Device.image c.flush.new.device ≡ slice_set (g.D.Device.image c.loop-address.device) c.in-Some.address block)
      × (g.D.Device.held c.flush.new.device ≡ wrote g.D.Device.KEEPS_ORDER (g.D.Device.held c.loop-address.device) c.in-Some.address block)
  wrote_block = c.in_ok-flush.ensures.written (subst (λ n. 0 < n) (sym c.in_ok-flush.ensures.count) some)

  one_more : images_held (g.D.Device.held c.flush.new.device) ≡ images_held (g.D.Device.held c.loop-address.device) ++ g.D.Device.image c.flush.new.device ∷ []
  one_more = images_held-write order (g.D.Device.held c.loop-address.device) (g.D.Device.held c.flush.new.device) a wrote_block.0 (g.D.Device.image c.flush.new.device) wrote_block.2 (g.met.D.Device.answers c.flush.new.device)

  put_now : HasPut c.args.self.now c.flush.new.self
  put_now = subst (HasPut c.args.self.now) (sym c.in_ok-flush.ensures.flushed)
      (put_then c.args.self.now w (after_flush order w a) c.loop-address.invariant.closed c.loop-address.invariant.put (put_after order w c.in-Some.ensures.closed a))

  medium_now : g.D.Device.honest c.flush.new.device → (mounted : View) → IsOnMedium mounted c.args.self.now (g.D.Device.held c.args.device.now).now → IsOnMedium mounted c.flush.new.self (g.D.Device.held c.flush.new.device).now
  medium_now h mounted on = c.flush.ensures.medium h mounted (c.loop-address.invariant.medium (c.flush.ensures.honest h) mounted on)

  -- the writes so far, and this one
  writes_now : g.D.Device.honest c.flush.new.device
      → AreWrites c.args.self.now.geometry (g.D.Device.image c.args.device.now) (g.D.Device.held c.args.device.now) (pending_of c.args.self.now) (g.D.Device.image c.flush.new.device) (g.D.Device.held c.flush.new.device) (pending_of c.flush.new.self)
  writes_now h =
      let image = g.D.Device.image c.loop-address.device in
      let held = g.D.Device.held c.loop-address.device in
      let image' = g.D.Device.image c.flush.new.device in
      let held' = g.D.Device.held c.flush.new.device in
      writes_append c.args.self.now.geometry (g.D.Device.image c.args.device.now) (g.D.Device.held c.args.device.now) (pending_of c.args.self.now) image held (pending_of w) image' held' (pending_of c.flush.new.self)
      (c.loop-address.invariant.writes (c.flush.ensures.honest h))
      (subst (λ x. AreWrites x image held (pending_of w) image' held' (pending_of c.flush.new.self)) c.loop-address.invariant.put.geometry
      (subst (AreWrites w.geometry image held (pending_of w) image' held') (sym c.in_ok-flush.ensures.rest)
      (writes_one w.geometry image held (pending_of w) image' held' a (next_cut w a) c.flush.ensures.closed c.flush.ensures.of_block some (c.in_ok-flush.ensures.view h) one_more (c.in_ok-flush.ensures.frame h))))

  flushes_now : g.D.Device.honest c.flush.new.device → g.D.Device.KEEPS_ORDER ≡ true → IsSettled c.args.self.now
      → IsSettled c.flush.new.self × AreFlushes c.args.self.now.geometry (g.D.Device.image c.args.device.now) (g.D.Device.held c.args.device.now) (pending_of c.args.self.now) (g.D.Device.image c.flush.new.device) (g.D.Device.held c.flush.new.device) (pending_of c.flush.new.self)
  flushes_now h keeps is =
      let image = g.D.Device.image c.loop-address.device in
      let held = g.D.Device.held c.loop-address.device in
      let image' = g.D.Device.image c.flush.new.device in
      let held' = g.D.Device.held c.flush.new.device in
      let before = c.loop-address.invariant.flushes (c.flush.ensures.honest h) keeps is in
      let closed = c.in-Some.ensures.closed in
      let next = c.in-Some.ensures.next in
      let begins = c.loop-address.invariant.begins keeps in
      let all = next_is_ready w closed before.0 a in
      let least = least_is_ready w closed before.0 a (record { has = next.has; least = λ b low. next.least b (omega (arith, begins)) low }) in
      let view = subst (λ cut. image_view w.geometry image' ≡ seen (image_view w.geometry image) (pending_of w) cut) all (c.in_ok-flush.ensures.view h) in (
        subst IsSettled (sym (c.in_ok-flush.ensures.flushed ∙ ap (λ k. after_flush k w a) keeps)) (order_settles w closed a),
        flushes_append c.args.self.now.geometry (g.D.Device.image c.args.device.now) (g.D.Device.held c.args.device.now) (pending_of c.args.self.now) image held (pending_of w) image' held' (pending_of c.flush.new.self) before.1
            (subst (λ x. AreFlushes x image held (pending_of w) image' held' (pending_of c.flush.new.self)) c.loop-address.invariant.put.geometry
            (subst (AreFlushes w.geometry image held (pending_of w) image' held') (sym (c.in_ok-flush.ensures.rest ∙ ap (rest (pending_of w)) all))
            (flushes_one w.geometry image held (pending_of w) image' held' a least view one_more (c.in_ok-flush.ensures.frame h)))),
      )

pub loop-address-smaller : goal.loop-address-smaller
loop-address-smaller g c = let l = less g c in let s = some g c in omega (arith, l, s)

pub loop-address-preserved : goal.loop-address-preserved
loop-address-preserved g c =
    let i = c.loop-address.invariant in
    let a = c.in-Some.address in
    let block = wrote_block g c in
    let flushed = c.in_ok-flush.ensures.flushed in
    record {
      closed = i.closed;
      put = put_now g c;
      count = ap length block.1 ∙ length-set (g.D.Device.image c.loop-address.device) a block.0 ∙ i.count
          ∙ ap block_count (sym (ap (λ (x : Queued). x.geometry) flushed ∙ geometry_after (order g c) c.loop-address.self c.in-Some.ensures.closed a));
      shorter = inr (let l = less g c in let s = some g c in elim i.shorter [
        | inl same ↦ (let n = ap (λ (x : Queued). length (pending_of x)) same in omega (arith, l, s, n))
        | inr short ↦ omega (arith, l, s, short)
      ]);
      begins = λ keeps. elim c.if-KEEPS_ORDER.branch [
        | then-KEEPS_ORDER w ↦ w.from-is
        | else-KEEPS_ORDER w ↦ absurd (let bad : true ≡ false = sym keeps ∙ sym c.KEEPS_ORDER.ensures ∙ w.if-KEEPS_ORDER.false in cc)
      ];
      below = λ b low. elim c.if-KEEPS_ORDER.branch [
        | then-KEEPS_ORDER w ↦ (let none = w.from-is in absurd (omega (arith, low, none)))
        | else-KEEPS_ORDER w ↦ (let at = w.from-is in
            subst (λ (x : Queued). taken (next_cut x b) ≡ 0) (sym (flushed ∙ ap (λ k. after_flush k c.loop-address.self a) (sym c.KEEPS_ORDER.ensures ∙ w.if-KEEPS_ORDER.false)))
            (below_next c.loop-address.self c.loop-address.from a c.in-Some.ensures.next i.below b (omega (arith, low, at))))
      ];
      few = (
          let l = less g c in
          let s = some g c in
          let f = i.few in
          let m = ap (λ (x : Held). length x.media) block.2 ∙ length-append (g.D.Device.held c.loop-address.device).media (written (order g c) (g.D.Device.held c.loop-address.device).now a block.0 ∷ []) in
          omega (arith, l, s, f, m)
          );
      failures = c.in_ok-flush.ensures.calm ∙ i.failures;
      honest = λ h. i.honest (c.flush.ensures.honest h);
      writes = writes_now g c;
      flushes = flushes_now g c;
      medium = medium_now g c;
      held = λ h mounted on. held_more mounted c.args.self.now (g.D.Device.held c.args.device.now) (g.D.Device.held c.loop-address.device) (g.D.Device.held c.flush.new.device) (order g c) a block.0
          (i.held (c.flush.ensures.honest h) mounted on) block.2 (record { queue = c.flush.new.self; put = put_now g c; on = medium_now g c h mounted on });
    }

-- ---- a flush that the device refused changed nothing

pub returns-in_err-flush-clause-closed : goal.returns-in_err-flush-clause-closed
returns-in_err-flush-clause-closed g c = c.loop-address.invariant.closed

pub returns-in_err-flush-clause-put : goal.returns-in_err-flush-clause-put
returns-in_err-flush-clause-put g c = subst (HasPut c.args.self.now) (sym c.in_err-flush.ensures.refused) c.loop-address.invariant.put

pub returns-in_err-flush-clause-count : goal.returns-in_err-flush-clause-count
returns-in_err-flush-clause-count g c = ap length c.in_err-flush.ensures.image ∙ c.loop-address.invariant.count ∙ ap (λ (w : Queued). block_count w.geometry) (sym c.in_err-flush.ensures.refused)

pub returns-in_err-flush-clause-writes : goal.returns-in_err-flush-clause-writes
returns-in_err-flush-clause-writes g c h =
    let start = AreWrites c.args.self.now.geometry (g.D.Device.image c.args.device.now) (g.D.Device.held c.args.device.now) (pending_of c.args.self.now) in
    subst (λ image. start image (g.D.Device.held c.flush.new.device) (pending_of c.flush.new.self)) (sym c.in_err-flush.ensures.image)
    (subst (λ held. start (g.D.Device.image c.loop-address.device) held (pending_of c.flush.new.self)) (sym c.in_err-flush.ensures.held)
    (subst (λ (w : Queued). start (g.D.Device.image c.loop-address.device) (g.D.Device.held c.loop-address.device) (pending_of w)) (sym c.in_err-flush.ensures.refused) (c.loop-address.invariant.writes (c.flush.ensures.honest h))))

pub returns-in_err-flush-clause-flushes : goal.returns-in_err-flush-clause-flushes
returns-in_err-flush-clause-flushes g c h keeps is =
    let start = AreFlushes c.args.self.now.geometry (g.D.Device.image c.args.device.now) (g.D.Device.held c.args.device.now) (pending_of c.args.self.now) in
    subst (λ image. start image (g.D.Device.held c.flush.new.device) (pending_of c.flush.new.self)) (sym c.in_err-flush.ensures.image)
    (subst (λ held. start (g.D.Device.image c.loop-address.device) held (pending_of c.flush.new.self)) (sym c.in_err-flush.ensures.held)
    (subst (λ (w : Queued). start (g.D.Device.image c.loop-address.device) (g.D.Device.held c.loop-address.device) (pending_of w)) (sym c.in_err-flush.ensures.refused) (c.loop-address.invariant.flushes (c.flush.ensures.honest h) keeps is).1))

pub returns-in_err-flush-clause-medium : goal.returns-in_err-flush-clause-medium
returns-in_err-flush-clause-medium g c h mounted on = c.flush.ensures.medium h mounted (c.loop-address.invariant.medium (c.flush.ensures.honest h) mounted on)

pub returns-in_err-flush-clause-held : goal.returns-in_err-flush-clause-held
returns-in_err-flush-clause-held g c h mounted on = subst (HasHeld mounted c.args.self.now (g.D.Device.held c.args.device.now)) (sym c.in_err-flush.ensures.held) (c.loop-address.invariant.held (c.flush.ensures.honest h) mounted on)

pub returns-in_err-flush-clause-few : goal.returns-in_err-flush-clause-few
returns-in_err-flush-clause-few g c =
    let s = ap (λ (w : Queued). length (pending_of w)) c.in_err-flush.ensures.refused in
    let m = ap (λ (held : Held). length held.media) c.in_err-flush.ensures.held in
    let f = c.loop-address.invariant.few in
    omega (arith, s, m, f)

-- ---- the device has told that all is durable, or it has not

pub returns-clause-closed : goal.returns-clause-closed
returns-clause-closed g c = c.loop-address.invariant.closed

pub returns-clause-settled : goal.returns-clause-settled
returns-clause-settled g c = subst IsSettled (sym c.in_ok-settle.ensures.settled) (settled_is c.loop-address.self c.settle.ensures.closed)

pub returns-clause-fewer : goal.returns-clause-fewer
returns-clause-fewer g c is = elim c.loop-address.invariant.shorter [
  | inl same ↦ inl (ap pending_of c.in_ok-settle.ensures.settled ∙ pending_settled c.loop-address.self c.settle.ensures.closed ∙ nothing_pending c.loop-address.self c.settle.ensures.closed (subst IsSettled (sym same) is) (nothing_more c.loop-address.self c.loop-address.from c.loop-address.invariant.below c.in_default.ensures.next))
  | inr short ↦ inr (let left = ap length (ap pending_of c.in_ok-settle.ensures.settled ∙ pending_settled c.loop-address.self c.settle.ensures.closed) in omega (arith, short, left))
]

pub returns-clause-put : goal.returns-clause-put
returns-clause-put g c =
    subst (HasPut c.args.self.now) (sym c.in_ok-settle.ensures.settled)
    (put_then c.args.self.now c.loop-address.self (settled c.loop-address.self) c.loop-address.invariant.closed c.loop-address.invariant.put (put_settled c.loop-address.self c.settle.ensures.closed))

pub returns-clause-count : goal.returns-clause-count
returns-clause-count g c = ap length c.settle.ensures.same ∙ c.loop-address.invariant.count ∙ ap (λ (w : Queued). block_count w.geometry) (sym c.in_ok-settle.ensures.settled)

pub returns-clause-writes : goal.returns-clause-writes
returns-clause-writes g c h =
    subst (AreWrites c.args.self.now.geometry (g.D.Device.image c.args.device.now) (g.D.Device.held c.args.device.now) (pending_of c.args.self.now) (g.D.Device.image c.settle.new.device) (g.D.Device.held c.settle.new.device)) (sym (ap pending_of c.in_ok-settle.ensures.settled ∙ pending_settled c.loop-address.self c.settle.ensures.closed))
    (writes_synced c.args.self.now.geometry (g.D.Device.image c.args.device.now) (g.D.Device.held c.args.device.now) (pending_of c.args.self.now) (g.D.Device.image c.loop-address.device) (g.D.Device.held c.loop-address.device) (pending_of c.loop-address.self)
    (g.D.Device.image c.settle.new.device) (g.D.Device.held c.settle.new.device) (c.loop-address.invariant.writes (c.settle.ensures.honest h)) c.settle.ensures.same (ap images_held c.in_ok-settle.ensures.synced))

pub returns-clause-flushes : goal.returns-clause-flushes
returns-clause-flushes g c h keeps is =
    subst (AreFlushes c.args.self.now.geometry (g.D.Device.image c.args.device.now) (g.D.Device.held c.args.device.now) (pending_of c.args.self.now) (g.D.Device.image c.settle.new.device) (g.D.Device.held c.settle.new.device)) (sym (ap pending_of c.in_ok-settle.ensures.settled ∙ pending_settled c.loop-address.self c.settle.ensures.closed))
    (flushes_synced c.args.self.now.geometry (g.D.Device.image c.args.device.now) (g.D.Device.held c.args.device.now) (pending_of c.args.self.now) (g.D.Device.image c.loop-address.device) (g.D.Device.held c.loop-address.device) (pending_of c.loop-address.self)
    (g.D.Device.image c.settle.new.device) (g.D.Device.held c.settle.new.device) (c.loop-address.invariant.flushes (c.settle.ensures.honest h) keeps is).1 c.settle.ensures.same (ap images_held c.in_ok-settle.ensures.synced))

pub returns-clause-medium : goal.returns-clause-medium
returns-clause-medium g c h mounted on = c.settle.ensures.medium mounted (c.loop-address.invariant.medium (c.settle.ensures.honest h) mounted on)

pub returns-clause-held : goal.returns-clause-held
returns-clause-held g c h mounted on =
    held_same mounted c.args.self.now (g.D.Device.held c.args.device.now) (g.D.Device.held c.loop-address.device) (g.D.Device.held c.settle.new.device) (c.loop-address.invariant.held (c.settle.ensures.honest h) mounted on)
    (ap (λ (held : Held). held.media) c.in_ok-settle.ensures.synced)

pub returns-clause-few : goal.returns-clause-few
returns-clause-few g c =
    let l = ap length (ap pending_of c.in_ok-settle.ensures.settled ∙ pending_settled c.loop-address.self c.settle.ensures.closed) in
    let m = ap (λ (held : Held). length held.media) c.in_ok-settle.ensures.synced in
    let f = c.loop-address.invariant.few in
    omega (arith, l, m, f)

-- ---- and where it refused, nothing changed

pub returns-in_err-settle-clause-closed : goal.returns-in_err-settle-clause-closed
returns-in_err-settle-clause-closed g c = c.loop-address.invariant.closed

pub returns-in_err-settle-clause-put : goal.returns-in_err-settle-clause-put
returns-in_err-settle-clause-put g c = subst (HasPut c.args.self.now) (sym c.in_err-settle.ensures.refused) c.loop-address.invariant.put

pub returns-in_err-settle-clause-count : goal.returns-in_err-settle-clause-count
returns-in_err-settle-clause-count g c = ap length c.settle.ensures.same ∙ c.loop-address.invariant.count ∙ ap (λ (w : Queued). block_count w.geometry) (sym c.in_err-settle.ensures.refused)

pub returns-in_err-settle-clause-writes : goal.returns-in_err-settle-clause-writes
returns-in_err-settle-clause-writes g c h =
    subst (λ (w : Queued). AreWrites c.args.self.now.geometry (g.D.Device.image c.args.device.now) (g.D.Device.held c.args.device.now) (pending_of c.args.self.now) (g.D.Device.image c.settle.new.device) (g.D.Device.held c.settle.new.device) (pending_of w)) (sym c.in_err-settle.ensures.refused)
    (writes_synced c.args.self.now.geometry (g.D.Device.image c.args.device.now) (g.D.Device.held c.args.device.now) (pending_of c.args.self.now) (g.D.Device.image c.loop-address.device) (g.D.Device.held c.loop-address.device) (pending_of c.loop-address.self)
    (g.D.Device.image c.settle.new.device) (g.D.Device.held c.settle.new.device) (c.loop-address.invariant.writes (c.settle.ensures.honest h)) c.settle.ensures.same (ap images_held c.in_err-settle.ensures.held))

pub returns-in_err-settle-clause-flushes : goal.returns-in_err-settle-clause-flushes
returns-in_err-settle-clause-flushes g c h keeps is =
    subst (λ (w : Queued). AreFlushes c.args.self.now.geometry (g.D.Device.image c.args.device.now) (g.D.Device.held c.args.device.now) (pending_of c.args.self.now) (g.D.Device.image c.settle.new.device) (g.D.Device.held c.settle.new.device) (pending_of w)) (sym c.in_err-settle.ensures.refused)
    (flushes_synced c.args.self.now.geometry (g.D.Device.image c.args.device.now) (g.D.Device.held c.args.device.now) (pending_of c.args.self.now) (g.D.Device.image c.loop-address.device) (g.D.Device.held c.loop-address.device) (pending_of c.loop-address.self)
    (g.D.Device.image c.settle.new.device) (g.D.Device.held c.settle.new.device) (c.loop-address.invariant.flushes (c.settle.ensures.honest h) keeps is).1 c.settle.ensures.same (ap images_held c.in_err-settle.ensures.held))

pub returns-in_err-settle-clause-medium : goal.returns-in_err-settle-clause-medium
returns-in_err-settle-clause-medium g c h mounted on = c.settle.ensures.medium mounted (c.loop-address.invariant.medium (c.settle.ensures.honest h) mounted on)

pub returns-in_err-settle-clause-held : goal.returns-in_err-settle-clause-held
returns-in_err-settle-clause-held g c h mounted on = subst (HasHeld mounted c.args.self.now (g.D.Device.held c.args.device.now)) (sym c.in_err-settle.ensures.held) (c.loop-address.invariant.held (c.settle.ensures.honest h) mounted on)

pub returns-in_err-settle-clause-few : goal.returns-in_err-settle-clause-few
returns-in_err-settle-clause-few g c =
    let l = ap (λ (w : Queued). length (pending_of w)) c.in_err-settle.ensures.refused in
    let m = ap (λ (held : Held). length held.media) c.in_err-settle.ensures.held in
    let f = c.loop-address.invariant.few in
    omega (arith, l, m, f)
