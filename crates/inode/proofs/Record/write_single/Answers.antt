use Rattle.std.proofs.Common.{◌<◌, ap, ◌∙◌, refl, arith}
use Rattle.model.specs.View.{Inode, u32s_at}
use Rattle.inode.proofs.RecordBytes.{byte_behind}
use Rattle.inode.proofs.Record.write_single.Goals as goal

pub returns-clause-read : goal.returns-clause-read
returns-clause-read c =
    let words = u32s_at c.args.bytes.now 64 16 in
    c.write_attributes.ensures.read 1 (record c.args.self.now { double = 0; attributes = words }) (c.write_front.ensures.read words refl)
    ∙ ap (λ (n : Inode). record c.args.self.now { double = 0; attributes = n.attributes }) c.self.view_is

pub returns-clause-rest : goal.returns-clause-rest
returns-clause-rest c = λ k from below.
    c.write_attributes.ensures.rest k below ∙ byte_behind 60 k c.write_front.new.bytes c.args.bytes.now from c.write_front.ensures.rest
