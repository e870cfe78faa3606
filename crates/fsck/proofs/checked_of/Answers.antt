use Rattle.std.proofs.Common.{◌≡◌, subst, sym}
use Rattle.std.specs.Arc.{arc_value}
use Rattle.std.proofs.lemmas.Result.{IfOk-weaker}
use Rattle.frozen.specs.Kept.{Kept, frozen_view}
use Rattle.fsck.specs.Checked.{IsChecked, IsFoundIn}
use Rattle.fsck.proofs.FindingLemmas.{in_order_are}
use Rattle.fsck.proofs.checked_of.Goals as goal

pub new-requires : goal.new-requires
new-requires g c =
    let kept : Kept = arc_value c.in_ok-clone.field-0 in
    let same : arc_value c.args.frozen.now ≡ kept = sym c.in_ok-clone.ensures.cases in
    in_order_are kept c.args.found.items c.in_ok-found.found.items
    (λ f. subst (λ (k : Kept). IsFoundIn k f c.args.found.items) same (c.requires f)) c.in_ok-found.ensures.order c.in_ok-found.ensures.same

pub returns-clause-checked : goal.returns-clause-checked
returns-clause-checked g c =
    IfOk-weaker c.new.result _ _ (λ checked is. subst (λ (k : Kept). IsChecked k.geometry (frozen_view k) checked) c.in_ok-clone.ensures.cases is) c.new.ensures.checked
