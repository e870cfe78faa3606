use Rattle.std.proofs.Common.{ap, ◌∙◌}
use Rattle.model.specs.View.{Inode}
use Rattle.frozen.proofs.held.Held.mode.Goals as goal

pub returns : goal.returns
returns c = c.mode_of.ensures c.args.self.now.geometry.version ∙ ap (λ (n : Inode). n.mode) c.record_bytes.ensures
