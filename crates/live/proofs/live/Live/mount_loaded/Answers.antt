use Rattle.std.proofs.Common.{IfOk, sym, ap, ◌∙◌, subst}
use Rattle.frozen.specs.Kept.{Kept}
use Rattle.softdep.specs.Queued.{fresh_queue}
use Rattle.live.specs.Mounting.{IsFresh}
use Rattle.live.proofs.Mounting.{live_fresh, mountable}
use Rattle.live.proofs.live.Live.mount_loaded.Goals as goal

pub invariant_of-result : goal.invariant_of-result
invariant_of-result g c =
    let fresh = subst (λ made. IfOk made (λ volume. IsFresh c.args.frozen volume.metadata volume.queue volume.holdings)) c.in-Ok.is c.volume_of.ensures.fresh in
    live_fresh (g.D.Device.honest c.args.device) (g.D.Device.image c.args.device) c.args.frozen c.requires.loaded c.requires.obeys c.in-Ok.field-0.metadata c.in-Ok.field-0.queue c.in-Ok.field-0.holdings fresh c.requires.count

pub returns-in-Ok-clause-mounted : goal.returns-in-Ok-clause-mounted
returns-in-Ok-clause-mounted g c =
    let fresh = subst (λ made. IfOk made (λ volume. IsFresh c.args.frozen volume.metadata volume.queue volume.holdings)) c.in-Ok.is c.volume_of.ensures.fresh in
    mountable (g.D.Device.honest c.args.device) (g.D.Device.image c.args.device) c.args.frozen c.requires.loaded c.requires.obeys c.in-Ok.field-0.metadata fresh.metadata_is

pub returns-in-Ok-clause-fresh : goal.returns-in-Ok-clause-fresh
returns-in-Ok-clause-fresh g c =
    let fresh = subst (λ made. IfOk made (λ volume. IsFresh c.args.frozen volume.metadata volume.queue volume.holdings)) c.in-Ok.is c.volume_of.ensures.fresh in
    fresh.queue_is ∙ ap (λ (k : Kept). fresh_queue k.geometry) (sym fresh.metadata_is)
