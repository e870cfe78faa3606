use Rattle.std.proofs.Common.{sym, ap, subst, ◌∙◌, inl}
use Rattle.device.specs.Writes.{HasFailed}
use Rattle.model.specs.Image.{image_view}
use Rattle.fuse_reader.specs.Said.{Says, spelled}
use Rattle.fuse_reader.specs.Turns.{on_inode, target_said}
use Rattle.fuse_reader.proofs.SameLemmas.{no_target, on_ok, target_of}
use Rattle.fuse_reader.proofs.looking.read_link.Goals as goal

pub returns-then-kind-ne-SYMBOLIC_LINK-clause-told : goal.returns-then-kind-ne-SYMBOLIC_LINK-clause-told
returns-then-kind-ne-SYMBOLIC_LINK-clause-told g c = on_ok c.refuse-then-kind-ne-SYMBOLIC_LINK.result c.refuse-then-kind-ne-SYMBOLIC_LINK.ensures (λ r honest is.
    let kept = c.args.frozen.now in
    let image = g.D.Device.image c.args.device.now in
    let failed = HasFailed (g.D.Device.failures c.args.device.now) (g.D.Device.failures c.args.device.now) in
    subst (λ o. Says c.args.unique (on_inode (target_said kept.geometry (image_view kept.geometry image)) o) failed c.refuse-then-kind-ne-SYMBOLIC_LINK.new.reply.items) (sym c.in-Some.is)
    (inl (r ∙ ap (spelled c.args.unique) (sym (no_target kept image is c.in-Some.link (λ e. c.if-kind-ne-SYMBOLIC_LINK.true (c.kind_at-kind.ensures ∙ e)))))))

pub returns-clause-told : goal.returns-clause-told
returns-clause-told g c = on_ok c.read.result c.read.ensures.told (λ h honest is.
    let kept = c.args.frozen.now in
    let image = g.D.Device.image c.args.device.now in
    let failed = HasFailed (g.D.Device.failures c.args.device.now) (g.D.Device.failures c.read.new.device) in
    let i = c.in-Some.link in
    subst (λ o. Says c.args.unique (on_inode (target_said kept.geometry (image_view kept.geometry image)) o) failed c.read.new.reply.items) (sym c.in-Some.is)
    (target_of kept image is i c.args.unique failed c.read.new.reply.items (sym c.kind_at-kind.ensures ∙ c.if-kind-ne-SYMBOLIC_LINK.false) (h honest is)))
