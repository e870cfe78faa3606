use Rattle.std.proofs.Common.{◌≡◌, Err, inl, inr, rules, subst}
use Rattle.layout.specs.declared.refusal.Refusal.{Refusal}
use Rattle.layout.specs.declared.refusal.Refusal.TheVariants.{AlreadyDone}
use Rattle.shared.specs.Calls.{IsRepairOf}
use Rattle.shared.specs.Repairing.{CarriedOut, IsEnd, PassedOver, Stays}
use Rattle.shared.proofs.shared.Shared.repair_all.Goals as goal

pub loop-progress-init : goal.loop-progress-init
loop-progress-init g c = (Stays, search rules, search rules, search rules)

pub loop-progress-preserved-in-Ok : goal.loop-progress-preserved-in-Ok
loop-progress-preserved-in-Ok g c =
    let did = c.in-Ok.ensures.carried_out in
    (CarriedOut did.0 c.loop-progress.invariant.0 did.1, search rules, search rules, search rules)

pub loop-progress-preserved : goal.loop-progress-preserved
loop-progress-preserved g c =
    let done : c.in-Err-AlreadyDone.field-0 ≡ AlreadyDone = search rules in
    let found = subst (λ (r : Refusal). IsRepairOf g.D.Device.honest g.D.Device.held g.D.Device.image g.L.Sharing.limit g.L.Sharing.opens c.loop-progress.progress.next (Err r)) done c.in-Err-AlreadyDone.ensures.refused in
    (PassedOver c.loop-progress.invariant.0 found, search rules, search rules, search rules)

pub returns-in-Err : goal.returns-in-Err
returns-in-Err g c =
    let inv = c.loop-progress.invariant in
    record {
      passed = inv.0;
      others = search rules;
      repairs = search rules;
      ended = search rules;
      refused = c.in-Err.ensures.refused;
      handed_on = search rules;
    }

pub returns-in-Err-BadIndex-clause-ended : goal.returns-in-Err-BadIndex-clause-ended
returns-in-Err-BadIndex-clause-ended g c =
    let end : IsEnd c.in-Err-BadIndex.field-0 = search rules in
    inr (c.in-Err-BadIndex.field-0, end, c.in-Err-BadIndex.ensures.refused)

pub returns-clause-ended : goal.returns-clause-ended
returns-clause-ended g c = inl c.loop-progress-test.false
