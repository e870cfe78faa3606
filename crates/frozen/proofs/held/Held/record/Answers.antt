use Rattle.std.proofs.Common.{ap, ◌∙◌}
use Rattle.model.specs.Layout.{Geometry}
use Rattle.model.specs.View.{inode_at}
use Rattle.frozen.proofs.held.Held.record.Goals as goal

pub returns : goal.returns
returns c =
    c.read.ensures
    ∙ ap (λ version. inode_at version c.record_bytes.result.now 0) (c.version.ensures.version ∙ ap (λ (g : Geometry). g.version) c.geometry.ensures.geometry)
    ∙ c.record_bytes.ensures
