use Rattle.std.proofs.Common.{sym, subst}
use Rattle.device.specs.Media.{Held, settled}
use Rattle.softdep.specs.Queued.{Queued}
use Rattle.softdep.specs.OnMedium.{IsOnMedium}
use Rattle.softdep.proofs.Mediums.{on_settled}
use Rattle.softdep.proofs.queue.Queue.settle.Goals as goal

pub returns-clause-medium : goal.returns-clause-medium
returns-clause-medium g c mounted on =
    let m = (g.D.Device.held c.args.device.now).now in
    subst (λ (h : Held). IsOnMedium mounted c.retire.new.self h.now) (sym c.in_ok-sync.ensures.held)
    (subst (λ (w : Queued). IsOnMedium mounted w (settled m)) (sym c.retire.ensures) (on_settled mounted c.args.self.now m on c.pending.ensures.closed))

pub returns-in_err-sync-clause-medium : goal.returns-in_err-sync-clause-medium
returns-in_err-sync-clause-medium g c mounted on = subst (λ (h : Held). IsOnMedium mounted c.args.self.now h.now) (sym c.in_err-sync.ensures.fault_held) on
