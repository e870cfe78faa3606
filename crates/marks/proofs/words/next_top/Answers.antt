use Rattle.std.proofs.Common.{arith}
use Rattle.marks.proofs.Ladders.{next_past, none_past_word}
use Rattle.marks.proofs.words.next_top.Goals as goal

pub returns-in_err-word : goal.returns-in_err-word
returns-in_err-word c =
    rw c.from_residual.ensures (none_past_word c.args.tops.now c.args.from c.in_default.ensures (λ w high. c.in_err-word.ensures w (omega (arith, high))))

pub returns : goal.returns
returns c = next_past c.args.tops.now c.args.from c.in_ok-word.word c.least_bit.result c.in_default.ensures (omega (arith, c.in_ok-word.ensures.above)) (λ w high low. c.in_ok-word.ensures.first w (omega (arith, high)) low) c.least_bit.ensures
