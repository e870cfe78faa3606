use Rattle.image_changes.proofs.AskingLemmas.{answered_adds}
use Rattle.image_changes.proofs.asking.answer_to.Goals as goal

pub returns-clause-asked : goal.returns-clause-asked
returns-clause-asked g c =
    let held = g.D.Device.held in
    let image = g.D.Device.image in
    let old = c.args.volume.now in
    let new = c.apply.new.self in
    answered_adds (held old.device) (held new.device) (image old.device) (image new.device) old new c.apply.result c.args.command.now (g.D.Device.honest new.device) c.apply.ensures.applied
