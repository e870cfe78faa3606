use Rattle.std.proofs.Common.{ap, eqb, get_or, arith, bit_or, w64, ◌*◌, ◌/◌, ◌%◌, ◌^◌, true}
use Rattle.std.proofs.lemmas.Nat.Bits.{bit_at_set_same, bit_at_set_other}
use Rattle.marks.proofs.Bits.{write_changes_bit}
use Rattle.marks.proofs.words.set_bit.Goals as goal

pub returns : goal.returns
returns c =
    let word = get_or c.args.words.now (c.args.number / 64) 0 in
    let place = c.args.number % 64 in
    write_changes_bit c.args.words.now c.args.number (bit_or word (1 * 2 ^ place % 2 ^ 64)) true c.requires
    (ap (λ n. eqb n 1) (bit_at_set_same w64 word place (omega arith)))
    (λ i below differs. bit_at_set_other w64 word place (omega arith) i differs)
