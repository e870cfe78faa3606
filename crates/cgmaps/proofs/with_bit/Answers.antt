use Rattle.std.proofs.Common.{◌∙◌, ap, eqb, sym, w8}
use Rattle.std.proofs.lemmas.Nat.Bits.{bit_at_set_same, bit_at_set_other, bit_at_clear_same, bit_at_clear_other}
use Rattle.cgmaps.proofs.with_bit.Goals as goal

pub returns-then-value : goal.returns-then-value
returns-then-value c = record {
  changed = ap (λ n. eqb n 1) (bit_at_set_same w8 c.args.byte c.args.bit c.requires) ∙ sym c.if-value.true;
  other_bits = λ k _ differs. bit_at_set_other w8 c.args.byte c.args.bit c.requires k differs;
}

pub returns-else-value : goal.returns-else-value
returns-else-value c = record {
  changed = ap (λ n. eqb n 1) (bit_at_clear_same w8 c.args.byte c.args.bit c.requires) ∙ sym c.if-value.false;
  other_bits = λ k below differs. bit_at_clear_other w8 c.args.byte c.args.bit c.requires k below differs;
}
