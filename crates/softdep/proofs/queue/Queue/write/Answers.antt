use Rattle.std.proofs.Common.{◌≡◌, ◌<◌, ◌≤◌, false, not, IsTrue, [], refl, sym, ap, ◌∙◌, subst, length, arith, slice_set, get_or-set_same}
use Rattle.model.specs.Layout.{is_data_address}
use Rattle.model.specs.View.{View}
use Rattle.std.proofs.lemmas.List.{length-set}
use Rattle.model.specs.Image.{IsBlock, IsGroupBlock, IsImage, block_at, image_view}
use Rattle.ordering.specs.Cuts.{rest, seen}
use Rattle.queue_model.specs.Blocks.{home_of}
use Rattle.queue_model.specs.Flush.{ready, taken}
use Rattle.power_cut.specs.Epochs.{Shows, beyond}
use Rattle.device.specs.Media.{cached, wrote}
use Rattle.device.proofs.WriteLemmas.{length-image_after}
use Rattle.softdep_queue.specs.Next.{to_write}
use Rattle.softdep_queue.specs.Taking.{TakesAll}
use Rattle.softdep.specs.declared.queue.Kind.TheVariants.{Wrote}
use Rattle.softdep.specs.Queued.{Queued, IsQueue, AreClosed, after, fresh_queue, unsynced_of, pending_of, next_cut, flushed}
use Rattle.softdep.specs.OnMedium.{IsOnMedium, KeepsFrame}
use Rattle.softdep.specs.Writing.{WritesTaken}
use Rattle.softdep.proofs.Issued.{after_push}
use Rattle.softdep.proofs.Framed.{above_super}
use Rattle.softdep.proofs.Frames.{image_frames, write_frames}
use Rattle.softdep.proofs.Queues.{pending_rest}
use Rattle.softdep.proofs.Flushed.{queue_flushed, queue_unflushed, next_count, flushed_bytes, unflushed_bytes, unflushed_view}
use Rattle.softdep.proofs.Puts.{group_block_stays}
use Rattle.softdep.proofs.NewBlocks.{new_shows, new_view, block_shows}
use Rattle.softdep.proofs.Mediums.{answers_view, on_flushed}
use Rattle.softdep.proofs.queue.Queue.write.Given.{Over}
use Rattle.softdep.proofs.GivenBytes.{taken_over}
use Rattle.softdep.proofs.queue.Queue.write.Goals as goal
use Rattle.softdep.proofs.queue.Queue.write.Goals.{then-is_none+in_ok-read, else-is_none}

-- ---- nothing is to be written

module _ (g : Over) (c : goal.After-self-1 g) where
  abbrev v : Queued
  v = after (fresh_queue c.self.inside.geometry) c.self.inside.events.items

  none : taken (next_cut (after (fresh_queue c.self.inside.geometry) c.self.inside.events.items) c.args.address) ≡ 0
  none = sym (next_count c.self.inside.geometry c.self.inside.table v c.args.address c.self.invariant) ∙ c.if-not-has_ready.ensures.none c.self.inside.geometry c.self.invariant.entries (unsynced_of v) v.loose c.self.invariant.holds refl

  next : after (fresh_queue c.self.inside.geometry) c.and-self-inside.result.items ≡ flushed (after (fresh_queue c.self.inside.geometry) c.self.inside.events.items) c.args.address
  next = ap (after (fresh_queue c.self.inside.geometry)) c.and-self-inside.ensures ∙ after_push (fresh_queue c.self.inside.geometry) c.self.inside.events.items (c.self.inside.none, Wrote c.args.address)

  none_now : taken (next_cut c.args.self.now c.args.address) ≡ 0
  none_now = subst (λ (w : Queued). taken (next_cut w c.args.address) ≡ 0) c.self.view_is none

  closed_now : AreClosed c.args.self.now
  closed_now = subst AreClosed c.self.view_is c.self.invariant.closed

pub invariant_of-self : goal.invariant_of-self
invariant_of-self g c =
    subst (IsQueue c.self.inside.geometry c.self.inside.table) (sym (next g c)) (queue_unflushed c.self.inside.geometry c.self.inside.table (v g c) c.args.address c.self.invariant (none g c))

pub returns-then-not-has_ready-clause-flushed : goal.returns-then-not-has_ready-clause-flushed
returns-then-not-has_ready-clause-flushed g c = next g c ∙ ap (λ (w : Queued). flushed w c.args.address) c.self.view_is

pub returns-then-not-has_ready-clause-count : goal.returns-then-not-has_ready-clause-count
returns-then-not-has_ready-clause-count g c = sym (none_now g c)

pub returns-then-not-has_ready-clause-bytes : goal.returns-then-not-has_ready-clause-bytes
returns-then-not-has_ready-clause-bytes g c honest =
    unflushed_bytes c.args.self.now (closed_now g c) c.args.address (block_at (g.D.Device.image c.args.device.now) c.args.address) (none_now g c)

pub returns-then-not-has_ready-clause-view : goal.returns-then-not-has_ready-clause-view
returns-then-not-has_ready-clause-view g c honest = unflushed_view c.args.self.now (closed_now g c) c.args.address (image_view c.args.self.now.geometry (g.D.Device.image c.args.device.now)) (none_now g c)

-- ---- what is to be written is taken

pub give_back-requires : goal.give_back-requires
give_back-requires g c =
    let v : Queued = after (fresh_queue c.self.inside.geometry) c.self.inside.events.items in
    record {
      geo = c.self.inside.geometry;
      queue = c.self.invariant.entries;
      q = unsynced_of v;
      loose = v.loose;
      taken = (c.take-count.ensures c.self.invariant.entries (unsynced_of v) v.loose c.self.invariant.holds).last;
    }

pub invariant_of-self-in-Err : goal.invariant_of-self-in-Err
invariant_of-self-in-Err g c =
    let geo = c.self.inside.geometry in
    let v : Queued = after (fresh_queue geo) c.self.inside.events.items in
    let all = c.take-count.ensures c.self.invariant.entries (unsynced_of v) v.loose c.self.invariant.holds in
    record {
      entries = c.self.invariant.entries;
      holds = c.give_back.ensures geo c.self.invariant.entries (unsynced_of v) v.loose all.last;
      closed = c.self.invariant.closed;
      same = c.self.invariant.same;
    }

-- ---- the block was written

module _ (g : Over) (c : goal.After-self-in-Ok-1 g) where
  abbrev before : Queued
  before = after (fresh_queue c.self.inside.geometry) c.self.inside.events.items

  next_ok : after (fresh_queue c.self.inside.geometry) c.and-self-inside-in-Ok.result.items ≡ flushed (after (fresh_queue c.self.inside.geometry) c.self.inside.events.items) c.args.address
  next_ok = ap (after (fresh_queue c.self.inside.geometry)) c.and-self-inside-in-Ok.ensures ∙ after_push (fresh_queue c.self.inside.geometry) c.self.inside.events.items (c.self.inside.none, Wrote c.args.address)

  all : TakesAll c.self.inside.geometry c.self.invariant.entries (unsynced_of before) before.loose c.args.address c.take-count.new.self c.if-is_none.block c.take-count.new.block c.take-count.result
  all = c.take-count.ensures c.self.invariant.entries (unsynced_of before) before.loose c.self.invariant.holds

  some : 1 ≤ taken (to_write (home_of c.self.inside.geometry) c.args.address (unsynced_of before) before.loose)
  some = c.if-not-has_ready.ensures.some c.self.inside.geometry c.self.invariant.entries (unsynced_of before) before.loose c.self.invariant.holds refl

  few : 1 ≤ c.take-count.result
  few = let s = some in let n = (all).count in omega (arith, s, n)

  same : (g.D.Device.image c.if-is_none.device ≡ g.D.Device.image c.args.device.now) × (g.D.Device.held c.if-is_none.device ≡ g.D.Device.held c.args.device.now)
  same = elim c.if-is_none.branch [
    | then-is_none+in_ok-read w ↦ (ap g.D.Device.image w.device-is ∙ w.in_ok-read.ensures.same, ap g.D.Device.held w.device-is ∙ w.in_ok-read.ensures.held)
    | else-is_none w ↦ (ap g.D.Device.image w.device-is, ap g.D.Device.held w.device-is)
  ]

  now : g.D.Device.image c.write.new.self ≡ slice_set (g.D.Device.image c.args.device.now) c.args.address c.take-count.new.block
  now = c.in-Ok.ensures.written ∙ ap (λ x. slice_set x c.args.address c.take-count.new.block) same.0

  low : c.args.address < length (g.D.Device.image c.args.device.now)
  low = let a = c.requires.address in let n = c.requires.count in omega (arith, a, n)

  -- what was taken was put into what stands on the device
  there : g.D.Device.honest c.write.new.self
      → TakesAll c.self.inside.geometry c.self.invariant.entries (unsynced_of before) before.loose c.args.address c.take-count.new.self (block_at (g.D.Device.image c.args.device.now) c.args.address) c.take-count.new.block c.take-count.result
  there honest = elim c.if-is_none.branch [
    | then-is_none+in_ok-read w ↦ subst (λ old. TakesAll c.self.inside.geometry c.self.invariant.entries (unsynced_of before) before.loose c.args.address c.take-count.new.self old c.take-count.new.block c.take-count.result)
        (w.block-is ∙ w.in_ok-read.ensures.block (subst g.D.Device.honest w.device-is (c.in-Ok.ensures.honest honest))) all
    | else-is_none w ↦ taken_over c.self.inside.geometry c.blocks-2.ensures.geometry c.args.address (data_block w.if-is_none.false) c.if-is_none.block (block_at (g.D.Device.image c.args.device.now) c.args.address)
        c.self.invariant.entries (unsynced_of before) before.loose c.take-count.new.self c.take-count.new.block c.take-count.result all few
  ]
    where
      data_block : c.is_none.result ≡ false → IsTrue (is_data_address c.self.inside.geometry c.args.address)
      data_block present = sym c.place_of.ensures.exactly ∙ c.is_none.ensures ∙ ap not present

  -- the block shows all that may go there, over what is durable
  shows : g.D.Device.honest c.write.new.self → (mounted : View) → (on : IsOnMedium mounted before (g.D.Device.held c.args.device.now).now)
      → Shows before.geometry c.args.address c.take-count.new.block
      (seen (image_view before.geometry (g.D.Device.held c.args.device.now).now.durable) (unsynced_of before) (ready (home_of before.geometry) c.args.address (unsynced_of before)))
  shows honest mounted on =
      let m = (g.D.Device.held c.args.device.now).now in
      let answers = g.met.D.Device.answers c.args.device.now in
      let over = there honest in
      subst (λ geo. Shows geo c.args.address c.take-count.new.block (seen (image_view geo m.durable) (unsynced_of before) (ready (home_of geo) c.args.address (unsynced_of before)))) (sym c.self.invariant.same)
      (new_shows c.self.inside.geometry c.take-count.new.self c.self.invariant.entries (unsynced_of before) before.loose c.args.address c.take-count.result over.last (image_view c.self.inside.geometry m.durable)
      (block_at (g.D.Device.image c.args.device.now) c.args.address) c.take-count.new.block over.put
      (subst (λ geo. Shows geo c.args.address (block_at (g.D.Device.image c.args.device.now) c.args.address) (seen (image_view geo m.durable) (unsynced_of before) before.loose)) c.self.invariant.same
      (block_shows before.geometry (block_at (g.D.Device.image c.args.device.now)) c.args.address (seen (image_view before.geometry m.durable) (unsynced_of before) before.loose)
      (ap (image_view before.geometry) answers ∙ answers_view mounted before m on))))

  -- and leaves an image one
  keeps : g.D.Device.honest c.write.new.self → IsImage c.self.inside.geometry (g.D.Device.image c.args.device.now) → KeepsFrame c.self.inside.geometry (c.args.address, c.take-count.new.block)
  keeps honest is = record {
    block = subst IsBlock (ap (λ image. block_at image c.args.address) now ∙ get_or-set_same (g.D.Device.image c.args.device.now) c.args.address c.take-count.new.block [] low)
        (c.blocks-in-Ok.ensures.whole c.args.address [] (let l = low in let n = ap length now ∙ length-set (g.D.Device.image c.args.device.now) c.args.address c.take-count.new.block in omega (arith, l, n)));
    low = (let l = low in let n = is.count in omega (arith, l, n));
    above = above_super c.self.inside.geometry c.self.invariant.entries (unsynced_of before) before.loose c.args.address c.take-count.new.self
        (block_at (g.D.Device.image c.args.device.now) c.args.address) c.take-count.new.block c.take-count.result (there honest) few;
    maps = λ h l e. group_block_stays c.self.inside.geometry c.args.address (there honest).last.es
        (block_at (g.D.Device.image c.args.device.now) c.args.address) c.take-count.new.block (there honest).last.own (there honest).put h e
        (subst (IsGroupBlock h) (ap (block_at (g.D.Device.image c.args.device.now)) (sym e)) (is.group_blocks h l));
  }

  medium : g.D.Device.honest c.write.new.self → (mounted : View) → IsOnMedium mounted c.args.self.now (g.D.Device.held c.args.device.now).now
      → IsOnMedium mounted (after (fresh_queue c.self.inside.geometry) c.and-self-inside-in-Ok.result.items) (cached (g.D.Device.held c.args.device.now).now c.args.address c.take-count.new.block)
  medium honest mounted is =
      let m = (g.D.Device.held c.args.device.now).now in
      let on = subst (λ (w : Queued). IsOnMedium mounted w m) (sym c.self.view_is) is in
      let l = low in
      let answers = ap length (g.met.D.Device.answers c.args.device.now) in
      let long = length-image_after m.durable m.loose in
      let image : IsImage before.geometry (g.D.Device.image c.args.device.now) = subst (IsImage before.geometry) (sym (g.met.D.Device.answers c.args.device.now)) (image_frames before.geometry m.durable m.loose on.image on.frames) in
      subst (λ (w : Queued). IsOnMedium mounted w (cached m c.args.address c.take-count.new.block)) (sym next_ok) (on_flushed mounted before m on c.args.address c.take-count.new.block (omega (arith, l, answers, long)) (shows honest mounted on)
      (subst (λ geo. KeepsFrame geo (c.args.address, c.take-count.new.block)) (sym c.self.invariant.same) (keeps honest (subst (λ geo. IsImage geo (g.D.Device.image c.args.device.now)) c.self.invariant.same image))))

  -- and over what it answered before the same as it writes
  view : g.D.Device.honest c.write.new.self → image_view before.geometry (g.D.Device.image c.write.new.self) ≡ seen (image_view before.geometry (g.D.Device.image c.args.device.now)) (pending_of before) (next_cut before c.args.address)
  view honest =
      let over = there honest in
      subst (λ p. image_view before.geometry (g.D.Device.image c.write.new.self) ≡ seen (image_view before.geometry (g.D.Device.image c.args.device.now)) p (next_cut before c.args.address)) (sym (pending_rest before c.self.invariant.closed))
      (subst (λ x. image_view x (g.D.Device.image c.write.new.self) ≡ seen (image_view x (g.D.Device.image c.args.device.now)) (rest (unsynced_of before) before.loose) (beyond before.loose (ready (home_of x) c.args.address (unsynced_of before)))) (sym c.self.invariant.same)
      (new_view c.self.inside.geometry c.take-count.new.self c.self.invariant.entries (unsynced_of before) before.loose c.args.address c.take-count.result over.last (g.D.Device.image c.args.device.now) (g.D.Device.image c.write.new.self)
      c.take-count.new.block over.put now low))

  frame : g.D.Device.honest c.write.new.self → IsImage c.self.inside.geometry (g.D.Device.image c.args.device.now) → IsImage c.self.inside.geometry (g.D.Device.image c.write.new.self)
  frame honest is = subst (IsImage c.self.inside.geometry) (sym now) (write_frames c.self.inside.geometry (g.D.Device.image c.args.device.now) (c.args.address, c.take-count.new.block) is (keeps honest is))

pub invariant_of-self-in-Ok : goal.invariant_of-self-in-Ok
invariant_of-self-in-Ok g c =
    subst (IsQueue c.self.inside.geometry c.take-count.new.self) (sym (next_ok g c))
    (queue_flushed c.self.inside.geometry c.self.inside.table c.take-count.new.self (before g c) c.args.address c.self.invariant (all g c).holds)

pub returns-in-Ok-clause-flushed : goal.returns-in-Ok-clause-flushed
returns-in-Ok-clause-flushed g c = next_ok g c ∙ ap (λ (w : Queued). flushed w c.args.address) c.self.view_is

pub returns-in-Ok-clause-count : goal.returns-in-Ok-clause-count
returns-in-Ok-clause-count g c =
    subst (λ (w : Queued). c.take-count.result ≡ taken (next_cut w c.args.address)) c.self.view_is
    ((all g c).count ∙ next_count c.self.inside.geometry c.self.inside.table (before g c) c.args.address c.self.invariant)

pub returns-in-Ok-clause-untouched : goal.returns-in-Ok-clause-untouched
returns-in-Ok-clause-untouched g c zero = let f = few g c in absurd (omega (arith, f, zero))

pub returns-in-Ok-clause-written : goal.returns-in-Ok-clause-written
returns-in-Ok-clause-written g c more =
    (c.take-count.new.block, now g c, c.in-Ok.ensures.held ∙ ap (λ held. wrote g.D.Device.KEEPS_ORDER held c.args.address c.take-count.new.block) (same g c).1, medium g c)

pub returns-in-Ok-clause-bytes : goal.returns-in-Ok-clause-bytes
returns-in-Ok-clause-bytes g c honest =
    let new = sym (ap (λ image. block_at image c.args.address) (now g c) ∙ get_or-set_same (g.D.Device.image c.args.device.now) c.args.address c.take-count.new.block [] (low g c)) in
    let old = block_at (g.D.Device.image c.args.device.now) c.args.address in
    subst (λ (w : Queued). WritesTaken w.geometry c.args.address (pending_of w) (next_cut w c.args.address) old (block_at (g.D.Device.image c.write.new.self) c.args.address)) c.self.view_is
    (subst (λ x. WritesTaken x c.args.address (pending_of (before g c)) (next_cut (before g c) c.args.address) old (block_at (g.D.Device.image c.write.new.self) c.args.address)) (sym c.self.invariant.same)
    (subst (WritesTaken c.self.inside.geometry c.args.address (pending_of (before g c)) (next_cut (before g c) c.args.address) old) new
    (flushed_bytes c.self.inside.geometry c.self.inside.table (before g c) c.self.invariant c.args.address c.take-count.new.self old c.take-count.new.block c.take-count.result (there g c honest))))

pub returns-in-Ok-clause-view : goal.returns-in-Ok-clause-view
returns-in-Ok-clause-view g c honest =
    subst (λ (w : Queued). image_view w.geometry (g.D.Device.image c.write.new.self) ≡ seen (image_view w.geometry (g.D.Device.image c.args.device.now)) (pending_of w) (next_cut w c.args.address)) c.self.view_is (view g c honest)

pub returns-in-Ok-clause-frame : goal.returns-in-Ok-clause-frame
returns-in-Ok-clause-frame g c honest =
    subst (λ (w : Queued). IsImage w.geometry (g.D.Device.image c.args.device.now) → IsImage w.geometry (g.D.Device.image c.write.new.self)) c.self.view_is
    (subst (λ x. IsImage x (g.D.Device.image c.args.device.now) → IsImage x (g.D.Device.image c.write.new.self)) (sym c.self.invariant.same) (frame g c honest))
