use Rattle.std.proofs.Common.{ap₂, ◌∙◌}
use Rattle.std.specs.Prelude.{List, ℕ}
use Rattle.model.specs.View.{Inode, with_attributes}
use Rattle.inode.proofs.Record.read.Goals as goal

pub returns : goal.returns
returns c =
    ap₂ (λ (n : Inode) (words : List ℕ). with_attributes n words) (c.record.view_is ∙ c.read_without_attributes-record.ensures) (c.attributes_of-record-inside.ensures c.args.version)
