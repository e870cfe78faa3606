use Rattle.std.proofs.Common.{refl}
use Rattle.machine.specs.Command.{Flush}
use Rattle.image_changes.proofs.AskingLemmas.{one_flush}
use Rattle.image_changes.proofs.flushing.wait_for_writes.Goals as goal

pub returns-in_ok-ask-clause-flushed : goal.returns-in_ok-ask-clause-flushed
returns-in_ok-ask-clause-flushed g c = λ honest.
    let held = g.D.Device.held in
    let image = g.D.Device.image in
    let old = c.args.volume.now in
    let new = c.ask.new.volume in
    one_flush (held old.device) (held new.device) (image old.device) (image new.device) old new 0 (c.in_ok-ask.ensures.asked honest (Flush 0) (λ geo. refl))
