use Rattle.std.proofs.Common.{◌≡◌, ap, ◌∙◌, arith}
use Rattle.model.specs.Layout.{Geometry}
use Rattle.frozen.specs.Kept.{Kept}
use Rattle.metadata.proofs.FreeLemmas.{all_numbers}
use Rattle.metadata.proofs.free_space.free_numbers.Goals as goal

pub returns : goal.returns
returns c =
    let kept : Kept = c.args.frozen.now in
    let groups : c.groups-group-end.result ≡ kept.geometry.groups = c.groups-group-end.ensures.count ∙ ap (λ (g : Geometry). g.groups) c.geometry-geometry.ensures.geometry in
    all_numbers kept c.geometry-geometry.ensures.frame.geometry c.loop-group.marks c.loop-group.group (omega (arith, c.loop-group-test.false, c.loop-group.auto.group-end, groups)) c.loop-group.invariant
