use Rattle.std.proofs.Common.{ap, ◌∙◌}
use Rattle.model.specs.View.{Inode, free_inode}
use Rattle.frozen.proofs.held.Held.head.Goals as goal

pub returns : goal.returns
returns c =
    c.read_head.ensures c.args.self.now.geometry.version
    ∙ ap (λ (n : Inode). record free_inode { mode = n.mode; links = n.links; size = n.size }) c.record_bytes.ensures
