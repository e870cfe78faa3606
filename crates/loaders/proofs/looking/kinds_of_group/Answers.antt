-- One number more is known.
use Rattle.std.proofs.Common.{◌≡◌, ◌*◌, length, sym, ap, ◌∙◌, subst, arith}
use Rattle.std.proofs.lemmas.List.{length_push}
use Rattle.model.specs.Layout.{Geometry}
use Rattle.frozen.specs.Kept.{frozen_view}
use Rattle.loaders.specs.Looking.{AreKindsFrom}
use Rattle.loaders.proofs.LookLemmas.{kinds_push, no_kinds}
use Rattle.loaders.proofs.looking.kinds_of_group.Goals as goal

pub loop-number-init : goal.loop-number-init
loop-number-init c =
    let kept = c.args.held.now in
    record {
      count = omega (arith, ap length c.in_ok-kinds.ensures.items);
      below = omega arith;
      kinds = no_kinds kept.geometry (frozen_view kept) _ c.in_ok-kinds.kinds.items c.in_ok-kinds.ensures.items;
    }

pub loop-number-preserved : goal.loop-number-preserved
loop-number-preserved c =
    let kept = c.args.held.now in
    let i = c.loop-number.invariant in
    let old = c.loop-number.kinds.items in
    record {
      count = omega (arith, ap length c.in_ok-push.ensures.items ∙ length_push old _, i.count);
      below = omega (arith, c.loop-number-test.true);
      kinds = subst (AreKindsFrom kept.geometry (frozen_view kept) _) (sym c.in_ok-push.ensures.items)
          (kinds_push kept.geometry (frozen_view kept) _ old _ c.loop-number.number i.count i.kinds c.kind.ensures);
    }

pub returns : goal.returns
returns c =
    let kept = c.args.held.now in
    let i = c.loop-number.invariant in
    let kinds = c.loop-number.kinds.items in
    let same : c.inodes_a_group-inodes.result ≡ kept.geometry.inodes = c.inodes_a_group-inodes.ensures.count ∙ ap (λ (geo : Geometry). geo.inodes) c.geometry.ensures.geometry in
    record {
      count = λ low. omega (arith, i.count, i.below, c.loop-number-test.false, same);
      kinds = subst (λ n. AreKindsFrom kept.geometry (frozen_view kept) (c.args.group * n) kinds) same i.kinds;
    }
