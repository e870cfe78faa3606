use Rattle.std.proofs.Common.{arith}
use Rattle.marks.proofs.Bits.{least_of_word}
use Rattle.marks.proofs.words.least_bit.Goals as goal

pub returns : goal.returns
returns c = least_of_word c.args.words.now c.args.word c.requires.some (omega (arith, c.type_inv.words c.args.word))
