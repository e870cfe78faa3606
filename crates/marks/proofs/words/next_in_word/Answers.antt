use Rattle.std.proofs.Common.{◌/◌, arith}
use Rattle.std.proofs.lemmas.List.{get_or_past}
use Rattle.marks.proofs.Bits.{bit_of_no_word, none_in_word, next_of_word}
use Rattle.marks.proofs.words.next_in_word.Goals as goal

pub returns-then-from-words : goal.returns-then-from-words
returns-then-from-words c n high same = bit_of_no_word c.args.words.now n (get_or_past c.args.words.now (n / 64) 0 (omega (arith, same, c.if-from-words.true)))

pub returns-then-left-eq0 : goal.returns-then-left-eq0
returns-then-left-eq0 c = none_in_word c.args.words.now c.args.from c.if-left-eq0.true

pub returns : goal.returns
returns c = next_of_word c.args.words.now c.args.from (omega (arith, c.if-left-eq0.false)) (omega (arith, c.type_inv.words (c.args.from / 64)))
