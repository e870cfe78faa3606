use Rattle.std.proofs.Common.{subst}
use Rattle.recording.specs.Recorded.{IsRecorded}
use Rattle.recording.proofs.Records.{image_recorded}
use Rattle.recording.proofs.recording.Recording.writes.Goals as goal

pub returns-clause-image : goal.returns-clause-image
returns-clause-image g c =
    let now = c.args.self.now in
    image_recorded g.D.Device.KEEPS_ORDER g.D.Device.held g.D.Device.image now.first now.device now.writes g.met.D.Device.answers
    (subst (λ r. IsRecorded g.D.Device.KEEPS_ORDER g.D.Device.held r.first r.device r.writes) c.self.view_is c.self.invariant)
