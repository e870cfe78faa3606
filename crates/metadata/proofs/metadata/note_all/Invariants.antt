use Rattle.std.proofs.Common.{All, map, take}
use Rattle.model.specs.Layout.{Geometry}
use Rattle.model.specs.View.{View}
use Rattle.model.specs.Cells.{updated_all}
use Rattle.metadata.specs.Free.{IsFreeOf}
use Rattle.metadata.specs.Staged.{AreBitsOf, IsBitOf, bit}
use Rattle.metadata.proofs.metadata.note_all.Given as goal

abbrev pub invariant-loop-bit : goal.invariant-loop-bit
invariant-loop-bit l = record {
  bits : AreBitsOf l.free l.fn.bits;
  noted : (geo : Geometry) (view : View) → All (IsBitOf geo) l.fn.bits → IsFreeOf geo view l.fn.free → IsFreeOf geo (updated_all view (map bit (take l.bit-index l.fn.bits))) l.free;
}
