use Rattle.std.proofs.Common.{refl}
use Rattle.machine.specs.Command.{Flush}
use Rattle.image_changes.proofs.AskingLemmas.{one_flush}
use Rattle.image_changes.proofs.flushing.flush_next.Goals as goal

pub returns-clause-flushed : goal.returns-clause-flushed
returns-clause-flushed g c = λ honest.
    let held = g.D.Device.held in
    let image = g.D.Device.image in
    let old = c.args.volume.now in
    let new = c.ask.new.volume in
    one_flush (held old.device) (held new.device) (image old.device) (image new.device) old new c.in-Some.address
    (c.in_ok-ask.ensures.asked honest (Flush c.in-Some.address) (λ geo. refl))
