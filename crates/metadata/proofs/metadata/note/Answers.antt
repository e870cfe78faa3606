use Rattle.std.proofs.Common.{sym, subst}
use Rattle.model.specs.Cells.{updated}
use Rattle.metadata.specs.Free.{IsFreeOf}
use Rattle.metadata.specs.Staged.{IsBitOf, bit}
use Rattle.metadata.proofs.metadata.note.Goals as goal

pub returns-in-Number : goal.returns-in-Number
returns-in-Number c geo view cell is =
    subst (λ b. IsBitOf geo b → IsFreeOf geo (updated view (bit b)) c.set_number.new.self) (sym c.in-Number.is) (λ t. c.set_number.ensures geo view t is) cell

pub returns-in-Block : goal.returns-in-Block
returns-in-Block c geo view cell is =
    subst (λ b. IsBitOf geo b → IsFreeOf geo (updated view (bit b)) c.set_block.new.self) (sym c.in-Block.is) (λ t. c.set_block.ensures geo view t is) cell
