use Rattle.std.proofs.Common.{map, sym, subst}
use Rattle.std.proofs.lemmas.List.{take_all}
use Rattle.model.specs.Cells.{updated_all}
use Rattle.metadata.specs.Free.{IsFreeOf}
use Rattle.metadata.specs.Staged.{bit}
use Rattle.metadata.proofs.Steps.{bits_more}
use Rattle.metadata.proofs.metadata.note_all.Goals as goal

pub loop-bit-preserved : goal.loop-bit-preserved
loop-bit-preserved c =
    let before = c.loop-bit.invariant.bits in
    record {
      bits = record {
        geometry = before.geometry;
        view = _;
        free_of = c.note.ensures before.geometry before.view (before.each c.loop-bit.bit-index _ c.loop-bit-test.true) before.free_of;
        each = before.each;
      };
      noted = λ geo view bits is.
          subst (λ v. IsFreeOf geo v c.note.new.free) (sym (bits_more view c.args.bits.now c.loop-bit.bit-index _ c.loop-bit-test.true))
          (c.note.ensures geo _ (bits c.loop-bit.bit-index _ c.loop-bit-test.true) (c.loop-bit.invariant.noted geo view bits is));
    }

pub returns : goal.returns
returns c geo view bits is =
    subst (λ bs. IsFreeOf geo (updated_all view (map bit bs)) c.loop-bit.free) (take_all c.loop-bit.bit-index c.args.bits.now c.loop-bit-test.false) (c.loop-bit.invariant.noted geo view bits is)
