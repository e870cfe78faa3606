use Rattle.import_tree.proofs.PutLemmas.{creates}
use Rattle.import_tree.proofs.making.make_file.Goals as goal

pub returns-in-Ok-clause-made : goal.returns-in-Ok-clause-made
returns-in-Ok-clause-made g c = λ honest.
    let held = g.D.Device.held in
    let image = g.D.Device.image in
    let old = c.args.volume.now in
    let mid = c.create.new.volume in
    let new = c.fill.new.volume in
    creates (held old.device) (held mid.device) (held new.device) (image old.device) (image mid.device) (image new.device) old mid new c.args.path.now c.args.attributes c.args.bytes.now
    (c.in_ok-create.ensures.made (c.fill.ensures.honest honest)) (c.in-Ok.ensures.filled honest)
