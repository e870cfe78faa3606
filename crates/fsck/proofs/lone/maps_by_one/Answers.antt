use Rattle.std.proofs.Common.{ap, ◌∙◌}
use Rattle.model.specs.Layout.{Geometry}
use Rattle.fsck.specs.Parts.{are_maps_of}
use Rattle.fsck.proofs.PartLemmas.{of_units}
use Rattle.fsck.proofs.lone.maps_by_one.Goals as goal

pub returns : goal.returns
returns c =
    let kept = c.args.frozen.now in
    of_units (λ unit found. are_maps_of kept c.args.owners.now unit found.items) c.groups.result kept.geometry.groups c.parts_of_one.result
    (c.groups.ensures.count ∙ ap (λ (one : Geometry). one.groups) c.geometry.ensures.geometry) c.parts_of_one.ensures
