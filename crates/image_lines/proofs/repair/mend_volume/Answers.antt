use Rattle.std.proofs.Common.{Err, ap, inl, refl, subst, sym}
use Rattle.std.proofs.lemmas.Result.{err_from_is_err_and, IfErr-weaker}
use Rattle.frozen.specs.Kept.{Kept}
use Rattle.fsck.specs.Checked.{IsChecked}
use Rattle.model.specs.Image.{image_view}
use Rattle.image_changes.proofs.MountLemmas.{of_both}
use Rattle.layout.specs.declared.refusal.Refusal.TheVariants.{Device}
use Rattle.snapshot.proofs.Blaming.{same_refusal}
use Rattle.image_lines.proofs.RepairLemmas.{blames_none, mended_well}
use Rattle.image_lines.proofs.repair.mend_volume.Goals as goal

pub returns-in_err-mend_checked-clause-error : goal.returns-in_err-mend_checked-clause-error
returns-in_err-mend_checked-clause-error g c =
    let p = err_from_is_err_and c.from_residual.result c.from_residual.ensures.1 in
    rw (p.1, p.2) (λ h. c.in_err-mend_checked.ensures.error h)

pub returns-in_err-mend_checked-clause-cause : goal.returns-in_err-mend_checked-clause-cause
returns-in_err-mend_checked-clause-cause g c =
    let p = err_from_is_err_and c.from_residual.result c.from_residual.ensures.1 in
    rw (p.1, p.2) (λ e. c.in_err-mend_checked.ensures.cause (ap Err (same_refusal _ Device e)))

pub returns-clause-repaired : goal.returns-clause-repaired
returns-clause-repaired g c =
    of_both c.told_of_repairs.result _ _ _ (λ told text status h.
    let image = g.D.Device.image in
    let old = c.args.volume.now in
    let new = c.mend_checked.new.volume in
    let checked = c.args.checked.now in
    let first = c.mend_checked.ensures.honest h in
    mended_well old new (image old.device) (image old.device) (image new.device) told.text.items told.status checked checked
    c.damaged_where_a_rule_is_broken.ensures refl (c.requires.mounted first)
    (subst (λ geo. IsChecked geo (image_view geo (image old.device)) checked) (sym (ap (λ (k : Kept). k.geometry) c.requires.kept)) (c.a_checked_image_is_the_images.ensures (image old.device) checked (c.requires.loaded first) c.tells_its_image.ensures))
    refl text status (c.in_ok-mend_checked.ensures.framed h) (c.in_ok-mend_checked.ensures.clean h)) c.told_of_repairs.ensures.text c.told_of_repairs.ensures.status

pub returns-clause-error : goal.returns-clause-error
returns-clause-error g c = IfErr-weaker c.told_of_repairs.result _ _ (λ r memory h. inl memory) c.told_of_repairs.ensures.error

pub returns-clause-cause : goal.returns-clause-cause
returns-clause-cause g c = λ e. absurd (blames_none c.told_of_repairs.result c.told_of_repairs.ensures.error e)
