use Rattle.std.proofs.Common.{ap, ◌∙◌}
use Rattle.model.specs.Layout.{Geometry}
use Rattle.model.specs.View.{inode_at}
use Rattle.inode.specs.Parts.{without_attributes}
use Rattle.frozen.proofs.held.Held.without_attributes.Goals as goal

pub returns : goal.returns
returns c =
    c.read_without_attributes.ensures
    ∙ ap (λ version. without_attributes (inode_at version c.record_bytes.result.now 0)) (c.version.ensures.version ∙ ap (λ (geo : Geometry). geo.version) c.geometry.ensures.geometry)
    ∙ ap without_attributes c.record_bytes.ensures
