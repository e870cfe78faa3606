use Rattle.std.proofs.Common.{List, sym, ◌∙◌, subst}
use Rattle.machine.specs.Command.{Command}
use Rattle.image_changes.specs.Asking.{Adds}
use Rattle.import_tree.specs.Putting.{MakesFile}
use Rattle.import_tree.proofs.filling.make_file_from.Goals as goal

pub returns-in_ok-make_file-in-Held-clause-made : goal.returns-in_ok-make_file-in-Held-clause-made
returns-in_ok-make_file-in-Held-clause-made g c = λ honest.
    let held = g.D.Device.held in
    let image = g.D.Device.image in
    let old = c.args.volume.now in
    let new = c.make_file.new.volume in
    subst (λ bytes. (more : List Command) × MakesFile c.args.path.now c.args.attributes bytes more × Adds (held old.device) (image old.device) old more (held new.device) (image new.device) new)
    (c.as_slice.ensures.value ∙ sym c.all.ensures) (c.in_ok-make_file-in-Held.ensures.made honest)
