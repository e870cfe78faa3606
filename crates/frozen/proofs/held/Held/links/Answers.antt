use Rattle.std.proofs.Common.{ap, ◌∙◌}
use Rattle.model.specs.View.{Inode}
use Rattle.frozen.proofs.held.Held.links.Goals as goal

pub returns : goal.returns
returns c = ap (λ (n : Inode). n.links) (c.result.view_is ∙ c.head.ensures)
