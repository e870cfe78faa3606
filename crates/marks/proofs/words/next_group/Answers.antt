use Rattle.marks.proofs.Ladders.{next_told, none_told}
use Rattle.marks.proofs.words.next_group.Goals as goal

pub returns-in_err-word : goal.returns-in_err-word
returns-in_err-word c =
    rw c.from_residual.ensures (none_told c.args.tops.now c.args.groups.now c.requires.tell c.args.from c.in_default.ensures c.in_err-word.ensures)

pub returns : goal.returns
returns c = next_told c.args.tops.now c.args.groups.now c.requires.tell c.args.from c.in_ok-word.word c.least_bit.result c.in_default.ensures c.in_ok-word.ensures c.least_bit.ensures
