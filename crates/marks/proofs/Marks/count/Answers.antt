use Rattle.std.proofs.Common.{◌∙◌, sym, ap, length}
use Rattle.marks.proofs.Ladders.{length_of_bits}
use Rattle.marks.proofs.Marks.count.Goals as goal

pub returns : goal.returns
returns c = sym (length_of_bits c.self.inside.numbers.items c.self.inside.count) ∙ ap length c.self.view_is
