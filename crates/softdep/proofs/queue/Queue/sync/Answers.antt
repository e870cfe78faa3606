use Rattle.std.proofs.Common.{◌≡◌, List, [], ◌∷◌, inl, inr, refl, ap, ◌∙◌, subst, length, arith}
use Rattle.softdep.specs.Queued.{pending_of}
use Rattle.softdep.specs.Syncing.{AreWrites, AreFlushes}
use Rattle.softdep.proofs.Queues.{nothing_unsynced}
use Rattle.softdep.proofs.Swept.{put_then, rest_put, held_then}
use Rattle.softdep.proofs.Synced.{writes_append, writes_history, flushes_append, history_done}
use Rattle.softdep.proofs.queue.Queue.sync.Goals as goal

pub loop-self-init : goal.loop-self-init
loop-self-init g c = record {
  closed = c.sweep.ensures.closed;
  settled = c.in_ok-sweep.ensures.settled;
  put = c.sweep.ensures.put;
  count = c.sweep.ensures.count;
  few = c.sweep.ensures.few;
  failures = c.in_ok-sweep.ensures.calm;
  honest = c.sweep.ensures.honest;
  writes = c.sweep.ensures.writes;
  flushes = c.sweep.ensures.flushes;
  medium = c.sweep.ensures.medium;
  held = c.sweep.ensures.held;
}

pub loop-self-smaller : goal.loop-self-smaller
loop-self-smaller g c = elim (c.in_ok-sweep-2.ensures.fewer c.loop-self.invariant.settled) [
  | inl none ↦ (let some = c.loop-self-test.true in let count = c.pending.ensures.count in let n = ap length none in omega (arith, some, count, n))
  | inr less ↦ less
]

pub loop-self-preserved : goal.loop-self-preserved
loop-self-preserved g c = record {
  closed = c.loop-self.invariant.closed;
  settled = c.in_ok-sweep-2.ensures.settled;
  put = put_then c.args.self.now c.loop-self.self c.sweep-in-loop-self.new.self c.loop-self.invariant.closed c.loop-self.invariant.put c.sweep-in-loop-self.ensures.put;
  count = c.sweep-in-loop-self.ensures.count;
  few = (let f = c.loop-self.invariant.few in let s = c.sweep-in-loop-self.ensures.few in omega (arith, f, s));
  failures = c.in_ok-sweep-2.ensures.calm ∙ c.loop-self.invariant.failures;
  honest = λ h. c.loop-self.invariant.honest (c.sweep-in-loop-self.ensures.honest h);
  writes = λ h. writes_append c.args.self.now.geometry (g.D.Device.image c.args.device.now) (g.D.Device.held c.args.device.now) (pending_of c.args.self.now)
      (g.D.Device.image c.loop-self.device) (g.D.Device.held c.loop-self.device) (pending_of c.loop-self.self) (g.D.Device.image c.sweep-in-loop-self.new.device) (g.D.Device.held c.sweep-in-loop-self.new.device) (pending_of c.sweep-in-loop-self.new.self)
      (c.loop-self.invariant.writes (c.sweep-in-loop-self.ensures.honest h))
      (subst (λ x. AreWrites x (g.D.Device.image c.loop-self.device) (g.D.Device.held c.loop-self.device) (pending_of c.loop-self.self) (g.D.Device.image c.sweep-in-loop-self.new.device) (g.D.Device.held c.sweep-in-loop-self.new.device) (pending_of c.sweep-in-loop-self.new.self))
      c.loop-self.invariant.put.geometry (c.sweep-in-loop-self.ensures.writes h));
  flushes = λ h keeps is. flushes_append c.args.self.now.geometry (g.D.Device.image c.args.device.now) (g.D.Device.held c.args.device.now) (pending_of c.args.self.now)
      (g.D.Device.image c.loop-self.device) (g.D.Device.held c.loop-self.device) (pending_of c.loop-self.self) (g.D.Device.image c.sweep-in-loop-self.new.device) (g.D.Device.held c.sweep-in-loop-self.new.device) (pending_of c.sweep-in-loop-self.new.self)
      (c.loop-self.invariant.flushes (c.sweep-in-loop-self.ensures.honest h) keeps is)
      (subst (λ x. AreFlushes x (g.D.Device.image c.loop-self.device) (g.D.Device.held c.loop-self.device) (pending_of c.loop-self.self) (g.D.Device.image c.sweep-in-loop-self.new.device) (g.D.Device.held c.sweep-in-loop-self.new.device) (pending_of c.sweep-in-loop-self.new.self))
      c.loop-self.invariant.put.geometry (c.sweep-in-loop-self.ensures.flushes h keeps c.loop-self.invariant.settled));
  medium = λ h mounted on. c.sweep-in-loop-self.ensures.medium h mounted (c.loop-self.invariant.medium (c.sweep-in-loop-self.ensures.honest h) mounted on);
  held = λ h mounted on. held_then mounted c.args.self.now c.loop-self.self (g.D.Device.held c.args.device.now) (g.D.Device.held c.loop-self.device) (g.D.Device.held c.sweep-in-loop-self.new.device) c.loop-self.invariant.closed c.loop-self.invariant.put
      (c.loop-self.invariant.held (c.sweep-in-loop-self.ensures.honest h) mounted on) (c.sweep-in-loop-self.ensures.held h mounted (c.loop-self.invariant.medium (c.sweep-in-loop-self.ensures.honest h) mounted on));
}

-- ---- the device refused something

pub returns-in_err-sweep-clause-rest : goal.returns-in_err-sweep-clause-rest
returns-in_err-sweep-clause-rest g c = rest_put c.args.self.now c.sweep.new.self c.sweep.ensures.closed c.sweep.ensures.put

pub returns-in_err-sweep-clause-history : goal.returns-in_err-sweep-clause-history
returns-in_err-sweep-clause-history g c h =
    writes_history c.args.self.now.geometry (g.D.Device.image c.args.device.now) (g.D.Device.held c.args.device.now) (pending_of c.args.self.now) (g.D.Device.image c.sweep.new.device) (g.D.Device.held c.sweep.new.device) (pending_of c.sweep.new.self) (c.sweep.ensures.writes h)

pub returns-in_err-sweep-2-clause-put : goal.returns-in_err-sweep-2-clause-put
returns-in_err-sweep-2-clause-put g c = put_then c.args.self.now c.loop-self.self c.sweep-in-loop-self.new.self c.loop-self.invariant.closed c.loop-self.invariant.put c.sweep-in-loop-self.ensures.put

pub returns-in_err-sweep-2-clause-writes : goal.returns-in_err-sweep-2-clause-writes
returns-in_err-sweep-2-clause-writes g c = λ h. writes_append c.args.self.now.geometry (g.D.Device.image c.args.device.now) (g.D.Device.held c.args.device.now) (pending_of c.args.self.now)
    (g.D.Device.image c.loop-self.device) (g.D.Device.held c.loop-self.device) (pending_of c.loop-self.self) (g.D.Device.image c.sweep-in-loop-self.new.device) (g.D.Device.held c.sweep-in-loop-self.new.device) (pending_of c.sweep-in-loop-self.new.self)
    (c.loop-self.invariant.writes (c.sweep-in-loop-self.ensures.honest h))
    (subst (λ x. AreWrites x (g.D.Device.image c.loop-self.device) (g.D.Device.held c.loop-self.device) (pending_of c.loop-self.self) (g.D.Device.image c.sweep-in-loop-self.new.device) (g.D.Device.held c.sweep-in-loop-self.new.device) (pending_of c.sweep-in-loop-self.new.self))
    c.loop-self.invariant.put.geometry (c.sweep-in-loop-self.ensures.writes h))

pub returns-in_err-sweep-2-clause-flushes : goal.returns-in_err-sweep-2-clause-flushes
returns-in_err-sweep-2-clause-flushes g c = λ h keeps is. flushes_append c.args.self.now.geometry (g.D.Device.image c.args.device.now) (g.D.Device.held c.args.device.now) (pending_of c.args.self.now)
    (g.D.Device.image c.loop-self.device) (g.D.Device.held c.loop-self.device) (pending_of c.loop-self.self) (g.D.Device.image c.sweep-in-loop-self.new.device) (g.D.Device.held c.sweep-in-loop-self.new.device) (pending_of c.sweep-in-loop-self.new.self)
    (c.loop-self.invariant.flushes (c.sweep-in-loop-self.ensures.honest h) keeps is)
    (subst (λ x. AreFlushes x (g.D.Device.image c.loop-self.device) (g.D.Device.held c.loop-self.device) (pending_of c.loop-self.self) (g.D.Device.image c.sweep-in-loop-self.new.device) (g.D.Device.held c.sweep-in-loop-self.new.device) (pending_of c.sweep-in-loop-self.new.self))
    c.loop-self.invariant.put.geometry (c.sweep-in-loop-self.ensures.flushes h keeps c.loop-self.invariant.settled))

pub returns-in_err-sweep-2-clause-held : goal.returns-in_err-sweep-2-clause-held
returns-in_err-sweep-2-clause-held g c = λ h mounted on. held_then mounted c.args.self.now c.loop-self.self (g.D.Device.held c.args.device.now) (g.D.Device.held c.loop-self.device) (g.D.Device.held c.sweep-in-loop-self.new.device) c.loop-self.invariant.closed c.loop-self.invariant.put
    (c.loop-self.invariant.held (c.sweep-in-loop-self.ensures.honest h) mounted on) (c.sweep-in-loop-self.ensures.held h mounted (c.loop-self.invariant.medium (c.sweep-in-loop-self.ensures.honest h) mounted on))

pub returns-in_err-sweep-2-clause-medium : goal.returns-in_err-sweep-2-clause-medium
returns-in_err-sweep-2-clause-medium g c h mounted on = c.sweep-in-loop-self.ensures.medium h mounted (c.loop-self.invariant.medium (c.sweep-in-loop-self.ensures.honest h) mounted on)

pub returns-in_err-sweep-2-clause-rest : goal.returns-in_err-sweep-2-clause-rest
returns-in_err-sweep-2-clause-rest g c = rest_put c.args.self.now c.sweep-in-loop-self.new.self c.loop-self.invariant.closed (returns-in_err-sweep-2-clause-put g c)

pub returns-in_err-sweep-2-clause-history : goal.returns-in_err-sweep-2-clause-history
returns-in_err-sweep-2-clause-history g c h =
    writes_history c.args.self.now.geometry (g.D.Device.image c.args.device.now) (g.D.Device.held c.args.device.now) (pending_of c.args.self.now) (g.D.Device.image c.sweep-in-loop-self.new.device) (g.D.Device.held c.sweep-in-loop-self.new.device)
    (pending_of c.sweep-in-loop-self.new.self) (returns-in_err-sweep-2-clause-writes g c h)

-- ---- nothing is left

none : {A : Type 0} (xs : List A) → length xs ≡ 0 → xs ≡ []
none [] e = refl
none (x ∷ xs) e = absurd (omega (arith, e))

pub returns-clause-pending : goal.returns-clause-pending
returns-clause-pending g c = none (pending_of c.loop-self.self) (let count = c.pending.ensures.count in let few = c.loop-self-test.false in omega (arith, count, few))

pub returns-clause-unsynced : goal.returns-clause-unsynced
returns-clause-unsynced g c = nothing_unsynced c.loop-self.self c.pending.ensures.closed c.loop-self.invariant.settled (returns-clause-pending g c)

pub returns-clause-history : goal.returns-clause-history
returns-clause-history g c h =
    writes_history c.args.self.now.geometry (g.D.Device.image c.args.device.now) (g.D.Device.held c.args.device.now) (pending_of c.args.self.now) (g.D.Device.image c.loop-self.device) (g.D.Device.held c.loop-self.device) (pending_of c.loop-self.self)
    (c.loop-self.invariant.writes h)

pub returns-clause-view : goal.returns-clause-view
returns-clause-view g c h =
    history_done c.args.self.now.geometry (g.D.Device.image c.args.device.now) (g.D.Device.held c.args.device.now) (pending_of c.args.self.now) (g.D.Device.image c.loop-self.device) (g.D.Device.held c.loop-self.device) (pending_of c.loop-self.self)
    (returns-clause-history g c h) (returns-clause-pending g c)

pub returns-clause-rest : goal.returns-clause-rest
returns-clause-rest g c = rest_put c.args.self.now c.loop-self.self c.loop-self.invariant.closed c.loop-self.invariant.put
