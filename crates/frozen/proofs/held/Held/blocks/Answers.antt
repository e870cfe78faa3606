use Rattle.std.proofs.Common.{ap, ◌∙◌}
use Rattle.model.specs.View.{Inode}
use Rattle.model.specs.Uses.{blocks_of}
use Rattle.frozen.proofs.held.Held.blocks.Goals as goal

pub returns : goal.returns
returns c = c.blocks-2.ensures ∙ ap (λ (n : Inode). blocks_of n.size) c.head.ensures
