use Rattle.std.proofs.Common.{◌≡◌, [], ◌∷◌, ◌++◌, map, rules, subst, sym}
use Rattle.recording.specs.Recorded.{IsRecorded}
use Rattle.recording.proofs.Records.{wrote_recorded}
use Rattle.recording.proofs.recording.RecordingDevice.write.Goals as goal

pub invariant_of-self-in-Ok : goal.invariant_of-self-in-Ok
invariant_of-self-in-Ok g c =
    let first = map (λ e. e.0) c.self.inside.first.items in
    let old = c.self.inside in
    let pushed : c.push.new.self.items ≡ old.writes.items ++ record { address = c.args.address; block = c.args.from.now } ∷ [] = search rules in
    subst (IsRecorded g.D.Device.KEEPS_ORDER g.D.Device.held first c.write.new.self) (sym pushed)
    (wrote_recorded g.D.Device.KEEPS_ORDER g.D.Device.held first old.device c.write.new.self old.writes.items c.self.invariant (record { address = c.args.address; block = c.args.from.now }) c.in-Ok.ensures.held)
