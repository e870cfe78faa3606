use Rattle.import_tree.proofs.PutLemmas.{creates}
use Rattle.import_tree.proofs.copying.copy.Goals as goal

pub returns-in-Ok-fill_from-clause-made : goal.returns-in-Ok-fill_from-clause-made
returns-in-Ok-fill_from-clause-made g c = λ honest.
    let held = g.D.Device.held in
    let image = g.D.Device.image in
    let old = c.args.volume.now in
    let mid = c.create.new.volume in
    let new = c.fill_from.new.volume in
    creates (held old.device) (held mid.device) (held new.device) (image old.device) (image mid.device) (image new.device) old mid new c.args.path.now c.args.attributes c.in-Ok-fill_from.given
    (c.in_ok-create.ensures.made (c.fill_from.ensures.honest honest)) (c.in-Ok-fill_from.ensures.filled honest)
