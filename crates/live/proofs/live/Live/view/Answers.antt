use Rattle.std.proofs.Common.{subst}
use Rattle.model.specs.Image.{image_view}
use Rattle.machine.specs.Snapshot.{settled}
use Rattle.metadata.specs.Shown.{Shows}
use Rattle.softdep.specs.Queued.{pending_of}
use Rattle.live_states.specs.Holdings.{Beside, AreImagesOf}
use Rattle.live_states.specs.Snapshots.{IsSettled}
use Rattle.live_states.specs.Volume.{state_over}
use Rattle.live_states.proofs.Standing.{has, stands_with}
use Rattle.live.specs.Alive.{Alive, state_of}
use Rattle.live.proofs.live.Live.view.Goals as goal

pub settled-requires : goal.settled-requires
settled-requires g c = record { volume = stands_with c.self.inside.metadata c.self.inside.holdings (pending_of c.self.inside.queue) c.self.invariant.alive.disk c.self.invariant.alive.some }

pub returns-clause-settled : goal.returns-clause-settled
returns-clause-settled g c = subst (λ (l : Alive _). IsSettled l.kept l.holdings c.in_ok-settled.field-0) c.self.view_is c.in_ok-settled.ensures.settled

pub returns-clause-shown : goal.returns-clause-shown
returns-clause-shown g c =
    let view = c.in_ok-settled.field-0 in
    subst (λ (l : Alive _). g.D.Device.honest l.device → (beside : Beside) → AreImagesOf l.holdings.snapshots beside.snapshots
    → Shows view (settled l.kept.geometry (state_of (g.D.Device.image l.device) l beside))) c.self.view_is
    (λ h beside belongs.
    let disk = image_view c.self.inside.metadata.geometry (g.D.Device.image c.self.inside.device) in
    let q = pending_of c.self.inside.queue in
    c.in_ok-settled.ensures.settled (state_over disk q c.self.inside.holdings beside) (c.self.invariant.alive.true h).shows (has disk q c.self.inside.holdings beside belongs))
