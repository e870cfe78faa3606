-- One number more is known.
use Rattle.std.proofs.Common.{◌+◌, length, sym, ap, ◌∙◌, subst}
use Rattle.std.proofs.lemmas.List.{length_push}
use Rattle.frozen.specs.Kept.{frozen_view}
use Rattle.frozen.specs.Kinds.{AreKinds}
use Rattle.frozen.proofs.KindLemmas.{kinds_more, no_kinds}
use Rattle.frozen.proofs.kinds.kinds_of.Goals as goal

pub loop-number-init : goal.loop-number-init
loop-number-init c =
    let kept = c.args.held.now in
    record {
      count = ap length c.in_ok-kinds.ensures.items;
      kinds = no_kinds kept.geometry (frozen_view kept) c.in_ok-kinds.kinds.items c.in_ok-kinds.ensures.items;
    }

pub loop-number-preserved : goal.loop-number-preserved
loop-number-preserved c =
    let kept = c.args.held.now in
    let i = c.loop-number.invariant in
    let old = c.loop-number.kinds.items in
    record {
      count = ap length c.in_ok-push.ensures.items ∙ length_push old _ ∙ ap (λ n. n + 1) i.count;
      kinds = subst (AreKinds kept.geometry (frozen_view kept)) (sym c.in_ok-push.ensures.items)
          (kinds_more kept.geometry (frozen_view kept) old _ c.loop-number.number i.count i.kinds c.kind.ensures);
    }
