use Rattle.std.proofs.Common.{◌≡◌, ◌+◌, ◌-◌, ◌*◌, inl, inr, refl, sym, ◌∙◌, subst, arith, drop, slice_index, slice_set}
use Rattle.std.proofs.lemmas.Bool.{cases_eq}
use Rattle.std.proofs.lemmas.List.{get_or-set_same, get_or-set_other, length-set}
use Rattle.byteorder.specs.Numbers.{little_from-take}
use Rattle.model.specs.View.{u32_at}
use Rattle.inode.proofs.RecordBytes.{numbers_read}
use Rattle.inode.proofs.attributes_of.Goals as goal

pub loop-place-init : goal.loop-place-init
loop-place-init c = (refl, λ k b. absurd (omega (arith, b)))

pub loop-place-preserved : goal.loop-place-preserved
loop-place-preserved c =
    let bytes = c.args.bytes.now in
    let p = c.loop-place.place in
    let words = c.loop-place.attributes in
    let read = c.read_u32.ensures ∙ little_from-take 0 4 (128 - (64 + 4 * p)) (drop (64 + 4 * p) bytes) (omega (arith, c.loop-place-test.true)) in (
      length-set words p c.read_u32.result ∙ c.loop-place.invariant.0,
      λ k b. elim (cases_eq k p) [
        | inl e ↦
            subst (λ j. slice_index (slice_set words p c.read_u32.result) j ≡ u32_at bytes (64 + 4 * j)) (sym e)
            (get_or-set_same words p c.read_u32.result 0 (omega (arith, c.loop-place.invariant.0, c.loop-place-test.true)) ∙ read)
        | inr differs ↦ get_or-set_other words p k c.read_u32.result 0 differs ∙ c.loop-place.invariant.1 k (omega (arith, b, differs))
      ],
    )

pub returns : goal.returns
returns c = λ version. numbers_read 16 64 c.loop-place.attributes c.args.bytes.now c.loop-place.invariant.0 (λ k b. c.loop-place.invariant.1 k (omega (arith, b, c.loop-place-test.false)))
