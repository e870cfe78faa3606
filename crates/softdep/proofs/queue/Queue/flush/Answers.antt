use Rattle.std.proofs.Common.{◌≡◌, Result, Ok, Err, sym, ap, ◌∙◌, subst, arith}
use Rattle.std.specs.Result.{OnErr}
use Rattle.layout.specs.declared.refusal.Refusal.{Refusal}
use Rattle.queue_model.specs.Flush.{taken}
use Rattle.softdep.specs.Queued.{Queued, pending_of, flushed, settled, after_flush}
use Rattle.softdep.specs.OnMedium.{IsOnMedium}
use Rattle.softdep.proofs.Queues.{next_closed, next_of_block, closed_flushed, flushed_same, pending_flushed, pending_settled, settled_same, after_some, after_nothing}
use Rattle.softdep.proofs.Mediums.{on_nothing, on_loose, on_durable}
use Rattle.softdep.proofs.queue.Queue.flush.Goals as goal
use Rattle.softdep.proofs.queue.Queue.flush.Goals.{else-count-eq0-via-then-count-eq0+else-loose-gt0, else-count-eq0-via-else-count-eq0}

on_err : {A : Type 0} {P : Type 0} (r : Result A Refusal) → P → OnErr r P
on_err (Ok x) p = tt
on_err (Err e) p = p

-- ---- what a flush writes is a closed cut of the block's updates

pub returns-in_err-count-clause-closed : goal.returns-in_err-count-clause-closed
returns-in_err-count-clause-closed g c = next_closed c.args.self.now c.write.ensures.closed c.args.address

pub returns-in_err-count-clause-of_block : goal.returns-in_err-count-clause-of_block
returns-in_err-count-clause-of_block g c = next_of_block c.args.self.now c.write.ensures.closed c.args.address

pub returns-in_err-settle-clause-closed : goal.returns-in_err-settle-clause-closed
returns-in_err-settle-clause-closed g c = next_closed c.args.self.now c.write.ensures.closed c.args.address

pub returns-in_err-settle-clause-of_block : goal.returns-in_err-settle-clause-of_block
returns-in_err-settle-clause-of_block g c = next_of_block c.args.self.now c.write.ensures.closed c.args.address

pub returns-then-KEEPS_ORDER-clause-closed : goal.returns-then-KEEPS_ORDER-clause-closed
returns-then-KEEPS_ORDER-clause-closed g c = next_closed c.args.self.now c.write.ensures.closed c.args.address

pub returns-then-KEEPS_ORDER-clause-of_block : goal.returns-then-KEEPS_ORDER-clause-of_block
returns-then-KEEPS_ORDER-clause-of_block g c = next_of_block c.args.self.now c.write.ensures.closed c.args.address

pub returns-in_ok-settle-clause-closed : goal.returns-in_ok-settle-clause-closed
returns-in_ok-settle-clause-closed g c = next_closed c.args.self.now c.write.ensures.closed c.args.address

pub returns-in_ok-settle-clause-of_block : goal.returns-in_ok-settle-clause-of_block
returns-in_ok-settle-clause-of_block g c = next_of_block c.args.self.now c.write.ensures.closed c.args.address

pub returns-else-count-eq0-clause-closed : goal.returns-else-count-eq0-clause-closed
returns-else-count-eq0-clause-closed g c = next_closed c.args.self.now c.write.ensures.closed c.args.address

pub returns-else-count-eq0-clause-of_block : goal.returns-else-count-eq0-clause-of_block
returns-else-count-eq0-clause-of_block g c = next_of_block c.args.self.now c.write.ensures.closed c.args.address

-- ---- what was written is durable

pub returns-then-KEEPS_ORDER-clause-rest : goal.returns-then-KEEPS_ORDER-clause-rest
returns-then-KEEPS_ORDER-clause-rest g c =
    let closed = c.write.ensures.closed in
    ap pending_of (c.retire.ensures ∙ ap settled c.in_ok-count.ensures.flushed)
    ∙ pending_settled (flushed c.args.self.now c.args.address) (closed_flushed c.args.self.now closed c.args.address) ∙ pending_flushed c.args.self.now closed c.args.address

pub returns-then-KEEPS_ORDER-clause-medium : goal.returns-then-KEEPS_ORDER-clause-medium
returns-then-KEEPS_ORDER-clause-medium g c honest mounted on =
    let done = c.in_ok-count.ensures in
    let keeps = sym c.KEEPS_ORDER.ensures ∙ c.if-KEEPS_ORDER.true in
    subst (λ (w : Queued). IsOnMedium mounted w (g.D.Device.held c.write.new.device).now) (sym c.retire.ensures)
    (on_durable mounted g.D.Device.KEEPS_ORDER c.args.self.now c.write.new.self c.args.address c.in_ok-count.count c.write.ensures.closed done.flushed done.count (g.D.Device.held c.args.device.now) (g.D.Device.held c.write.new.device)
    keeps (g.met.D.Device.in_order keeps c.write.new.device).now (λ zero. ap g.D.Device.held (done.untouched zero)) (λ some. let w = done.written some in (w.0, w.2, w.3 honest mounted)) on)

-- ---- the device was asked whether it is

pub returns-in_ok-settle-clause-rest : goal.returns-in_ok-settle-clause-rest
returns-in_ok-settle-clause-rest g c =
    let closed = c.write.ensures.closed in
    ap pending_of (c.in_ok-settle.ensures.settled ∙ ap settled c.in_ok-count.ensures.flushed)
    ∙ pending_settled (flushed c.args.self.now c.args.address) (closed_flushed c.args.self.now closed c.args.address) ∙ pending_flushed c.args.self.now closed c.args.address

pub returns-in_ok-settle-clause-medium : goal.returns-in_ok-settle-clause-medium
returns-in_ok-settle-clause-medium g c honest mounted on =
    let done = c.in_ok-count.ensures in
    c.settle.ensures.medium mounted
    (on_nothing mounted g.D.Device.KEEPS_ORDER c.args.self.now c.write.new.self c.args.address c.in_ok-count.count c.write.ensures.closed done.flushed done.count (g.D.Device.held c.args.device.now) (g.D.Device.held c.write.new.device)
    c.if-count-eq0.true (ap g.D.Device.held (done.untouched c.if-count-eq0.true)) on)

pub returns-in_err-settle-clause-refused : goal.returns-in_err-settle-clause-refused
returns-in_err-settle-clause-refused g c =
    let done = c.in_ok-count.ensures in
    on_err c.from_residual-in_err-settle.result (c.in_err-settle.ensures.refused ∙ done.flushed ∙ flushed_same c.args.self.now c.write.ensures.closed c.args.address (sym done.count ∙ c.if-count-eq0.true))

pub returns-in_err-settle-clause-medium : goal.returns-in_err-settle-clause-medium
returns-in_err-settle-clause-medium g c honest mounted on =
    let done = c.in_ok-count.ensures in
    c.settle.ensures.medium mounted
    (on_nothing mounted g.D.Device.KEEPS_ORDER c.args.self.now c.write.new.self c.args.address c.in_ok-count.count c.write.ensures.closed done.flushed done.count (g.D.Device.held c.args.device.now) (g.D.Device.held c.write.new.device)
    c.if-count-eq0.true (ap g.D.Device.held (done.untouched c.if-count-eq0.true)) on)

-- ---- what was written is loose

pub returns-else-count-eq0-clause-rest : goal.returns-else-count-eq0-clause-rest
returns-else-count-eq0-clause-rest g c = ap pending_of c.in_ok-count.ensures.flushed ∙ pending_flushed c.args.self.now c.write.ensures.closed c.args.address

pub returns-else-count-eq0-clause-flushed : goal.returns-else-count-eq0-clause-flushed
returns-else-count-eq0-clause-flushed g c =
    let old : Queued = c.args.self.now in
    let a = c.args.address in
    let count = c.in_ok-count.ensures.count in
    let leaves = sym c.KEEPS_ORDER.ensures ∙ c.if-KEEPS_ORDER.false in
    let order = ap (λ k. after_flush k old a) (sym leaves) in
    elim c.else-count-eq0.branch [
      | else-count-eq0-via-then-count-eq0+else-loose-gt0 w ↦
          let loose = w.loose.ensures in
          let few = w.if-loose-gt0.false in
          let nothing : taken c.write.new.self.loose ≡ 0 = omega (arith, loose, few) in
          c.in_ok-count.ensures.flushed ∙ sym (settled_same (flushed old a) (closed_flushed old c.write.ensures.closed a) (ap (λ (x : Queued). taken x.loose) (sym c.in_ok-count.ensures.flushed) ∙ nothing))
          ∙ sym (after_nothing old a (sym count ∙ w.if-count-eq0.true)) ∙ order
      | else-count-eq0-via-else-count-eq0 w ↦
          let some = w.if-count-eq0.false in
          c.in_ok-count.ensures.flushed ∙ sym (after_some old a (omega (arith, some, count))) ∙ order
    ]

pub returns-else-count-eq0-clause-medium : goal.returns-else-count-eq0-clause-medium
returns-else-count-eq0-clause-medium g c honest mounted on =
    let done = c.in_ok-count.ensures in
    let leaves = sym c.KEEPS_ORDER.ensures ∙ c.if-KEEPS_ORDER.false in
    on_loose mounted g.D.Device.KEEPS_ORDER c.args.self.now c.write.new.self c.args.address c.in_ok-count.count c.write.ensures.closed done.flushed done.count (g.D.Device.held c.args.device.now) (g.D.Device.held c.write.new.device)
    leaves (λ zero. ap g.D.Device.held (done.untouched zero)) (λ some. let w = done.written some in (w.0, w.2, w.3 honest mounted)) on
