use Rattle.std.proofs.Common.{[], ◌∷◌, sym, ◌∙◌, subst}
use Rattle.machine.specs.Command.{Link}
use Rattle.image_changes.specs.Asking.{Adds}
use Rattle.import_tree.proofs.filling.make_link_from.Goals as goal

pub returns-in_ok-make_link-in-Held-clause-made : goal.returns-in_ok-make_link-in-Held-clause-made
returns-in_ok-make_link-in-Held-clause-made g c = λ honest.
    let held = g.D.Device.held in
    let image = g.D.Device.image in
    let old = c.args.volume.now in
    let new = c.make_link.new.volume in
    subst (λ path. Adds (held old.device) (image old.device) old (Link path c.args.name.now ∷ []) (held new.device) (image new.device) new)
    (c.as_slice.ensures.value ∙ sym c.all.ensures) (c.in_ok-make_link-in-Held.ensures.made honest)
