use Rattle.std.proofs.Common.{map}
use Rattle.recording.proofs.Records.{synced_recorded}
use Rattle.recording.proofs.recording.RecordingDevice.sync.Goals as goal

pub invariant_of-self : goal.invariant_of-self
invariant_of-self g c =
    synced_recorded g.D.Device.KEEPS_ORDER g.D.Device.held (map (λ e. e.0) c.self.inside.first.items) c.self.inside.device c.sync.new.self c.self.inside.writes.items c.self.invariant
    c.sync.result c.sync.ensures.held c.sync.ensures.fault_held
