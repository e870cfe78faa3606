use Rattle.std.proofs.Common.{◌∙◌, sym, subst}
use Rattle.frozen.specs.Kept.{Kept, frozen_view}
use Rattle.model.specs.Rules.{ObeysRules}
use Rattle.image_lines.proofs.MountLemmas.{obeys_unless_damaged}
use Rattle.image_lines.proofs.mounting.mount_checked.Goals as goal

pub mount_loaded-requires-clause-obeys : goal.mount_loaded-requires-clause-obeys
mount_loaded-requires-clause-obeys g c =
    subst (λ (k : Kept). ObeysRules k.geometry (frozen_view k)) (sym (c.in-Ok.ensures ∙ c.deref.ensures ∙ c.frozen.ensures))
    (obeys_unless_damaged c.args.checked.now c.tells_its_image.ensures c.rules_hold_where_findings_are_soft.ensures c.requires.sound)
