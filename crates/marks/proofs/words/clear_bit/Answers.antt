use Rattle.std.proofs.Common.{ap, eqb, get_or, arith, bit_and, w64, ◌≤◌, sym, subst, ◌*◌, ◌/◌, ◌%◌, ◌^◌, false, get_or-set_same}
use Rattle.std.specs.Int.{bit_not}
use Rattle.std.proofs.lemmas.Nat.{and_le_l}
use Rattle.std.proofs.lemmas.Nat.Bits.{bit_at_clear_same, bit_at_clear_other}
use Rattle.marks.proofs.Bits.{write_changes_bit}
use Rattle.marks.proofs.words.clear_bit.Goals as goal

pub returns : goal.returns
returns c =
    let words = c.args.words.now in
    let word = get_or words (c.args.number / 64) 0 in
    let place = c.args.number % 64 in
    let cleared = bit_and word (bit_not w64 (1 * 2 ^ place % 2 ^ 64)) in
    let read = get_or-set_same words (c.args.number / 64) cleared 0 c.requires in
    record {
      changes = write_changes_bit words c.args.number cleared false c.requires
          (ap (λ n. eqb n 1) (bit_at_clear_same w64 word place (omega arith)))
          (λ i below differs. bit_at_clear_other w64 word place (omega arith) i below differs);
      fewer = subst (λ n. n ≤ word) (sym read) (and_le_l word (bit_not w64 (1 * 2 ^ place % 2 ^ 64)));
      empty = ap (λ n. eqb n 0) (sym read);
    }
