use Rattle.std.proofs.Common.{ap, sym, ◌∙◌}
use Rattle.softdep.specs.Queued.{Queued}
use Rattle.softdep.proofs.queue.Queue.geometry.Goals as goal

pub returns : goal.returns
returns c = sym c.self.invariant.same ∙ ap (λ (w : Queued). w.geometry) c.self.view_is
