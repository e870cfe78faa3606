use Rattle.std.proofs.Common.{ap, eqb, get_or, ◌/◌, ◌%◌}
use Rattle.std.proofs.lemmas.Nat.Bits.{shr_and_one}
use Rattle.marks.specs.Words.{bit}
use Rattle.marks.proofs.words.has_bit.Goals as goal

pub returns : goal.returns
unfolding bit
returns c = ap (λ n. eqb n 1) (shr_and_one (get_or c.args.words.now (c.args.number / 64) 0) (c.args.number % 64))
