use Rattle.std.proofs.Common.{◌∙◌, Err, IfOk, ap, length, subst, sym}
use Rattle.frozen.specs.Kept.{IsKeptOf}
use Rattle.joint_devices.specs.Joined.{AllHonest, Joined, of_device}
use Rattle.image_changes.proofs.MountLemmas.{both_refused}
use Rattle.image_lines.specs.Checks.{IsCheckOf}
use Rattle.image_lines.specs.Repaired.{IsNotRepaired, IsRepaired, device_of, outcome_in}
use Rattle.image_lines.specs.declared.repair.Outcome.TheVariants.{Left}
use Rattle.image_lines.proofs.RepairLemmas.{still_comes, still_refused}
use Rattle.image_lines.proofs.repair.repair.Goals as goal

pub repair_checked-requires-clause-checked : goal.repair_checked-requires-clause-checked
repair_checked-requires-clause-checked g c =
    let checked = c.in-Ok.checked in
    subst (λ (joint : Joined g.row.D.Denot). AllHonest g.D.Device.honest joint → IsCheckOf (g.D.Device.image joint.device) checked) (sym c.new-device.ensures)
    (λ h. subst (λ i. IsCheckOf i checked) (sym c.check_by-checked.ensures.reads.same) (c.in-Ok.ensures.checked h.0 h.1))

pub repair_checked-requires-clause-loaded : goal.repair_checked-requires-clause-loaded
repair_checked-requires-clause-loaded g c =
    let kept = c.in-Ok.checked.frozen in
    subst (λ (joint : Joined g.row.D.Denot). AllHonest g.D.Device.honest joint → IsKeptOf kept (g.D.Device.image joint.device)) (sym c.new-device.ensures)
    (λ h. subst (IsKeptOf kept) (sym c.check_by-checked.ensures.reads.same) (c.in-Ok.ensures.loaded h.0 h.1))

pub repair_checked-requires-clause-count : goal.repair_checked-requires-clause-count
repair_checked-requires-clause-count g c =
    ap (λ (joint : Joined g.row.D.Denot). length (g.D.Device.image joint.device)) c.new-device.ensures ∙ ap length c.check_by-checked.ensures.reads.same ∙ c.in-Ok.ensures.count

pub returns-in-Ok-clause-repaired : goal.returns-in-Ok-clause-repaired
returns-in-Ok-clause-repaired g c =
    let honest = g.D.Device.honest in
    let image = g.D.Device.image in
    subst (λ i. IfOk c.repair_checked.result (λ repaired. AllHonest honest (device_of repaired.outcome) → IsRepaired i repaired.answer.text.items repaired.answer.status repaired.outcome (image (device_of repaired.outcome).device)))
    (ap (λ (joint : Joined g.row.D.Denot). image joint.device) c.new-device.ensures ∙ c.check_by-checked.ensures.reads.same) c.repair_checked.ensures.repaired

pub returns-in-Ok-clause-went : goal.returns-in-Ok-clause-went
returns-in-Ok-clause-went g c =
    let image = g.D.Device.image in
    let held = g.D.Device.held in
    let reads = c.check_by-checked.ensures.reads in
    still_comes (AllHonest g.D.Device.honest) (of_device image) (of_device held) (of_device g.D.Device.failures) c.new-device.result (record { device = c.args.device; readers = c.args.others.items })
    (ap (λ (joint : Joined g.row.D.Denot). image joint.device) c.new-device.ensures ∙ reads.same) (ap (λ (joint : Joined g.row.D.Denot). held joint.device) c.new-device.ensures ∙ reads.held)
    (outcome_in c.repair_checked.result) c.repair_checked.ensures.went

pub returns-in-Ok-clause-refused : goal.returns-in-Ok-clause-refused
returns-in-Ok-clause-refused g c =
    let image = g.D.Device.image in
    let held = g.D.Device.held in
    let reads = c.check_by-checked.ensures.reads in
    both_refused c.repair_checked.result _ _ _ (λ refused is mended.
    still_refused (AllHonest g.D.Device.honest) (of_device image) (of_device held) (of_device g.D.Device.failures) c.new-device.result (record { device = c.args.device; readers = c.args.others.items })
    (ap (λ (joint : Joined g.row.D.Denot). image joint.device) c.new-device.ensures ∙ reads.same) (ap (λ (joint : Joined g.row.D.Denot). held joint.device) c.new-device.ensures ∙ reads.held)
    refused mended is) c.repair_checked.ensures.refused c.repair_checked.ensures.left

pub returns-in-Err-clause-went : goal.returns-in-Err-clause-went
returns-in-Err-clause-went g c =
    let reads = c.check_by-checked.ensures.reads in
    (ap (λ (joint : Joined g.row.D.Denot). g.D.Device.image joint.device) c.new-device.ensures ∙ reads.same, ap (λ (joint : Joined g.row.D.Denot). g.D.Device.held joint.device) c.new-device.ensures ∙ reads.held)

pub returns-in-Err-clause-refused : goal.returns-in-Err-clause-refused
returns-in-Err-clause-refused g c =
    let given : Joined g.row.D.Denot = record { device = c.args.device; readers = c.args.others.items } in
    subst (λ (joint : Joined g.row.D.Denot). IsNotRepaired (AllHonest g.D.Device.honest) (of_device g.D.Device.image) (of_device g.D.Device.held) (of_device g.D.Device.failures) given (record { cause = c.in-Err.cause; outcome = Left joint }))
    (sym c.new-device.ensures) (record { refuses = λ h. c.in-Err.ensures.refused; cause = λ e. c.in-Err.ensures.cause (ap Err e) })
