use Rattle.std.proofs.Common.{length, sym, ap, ◌∙◌, arith}
use Rattle.write_behind.specs.Writes.{bytes_in}
use Rattle.write_behind.proofs.WriteLemmas.{next_span}
use Rattle.write_behind.proofs.rooms.Room.write_to.Goals as goal

pub loop-span-init : goal.loop-span-init
loop-span-init g c = ap length c.as_slice-left.ensures.value ∙ sym c.self.invariant ∙ ap bytes_in (sym c.deref-span-items.ensures.value)

pub split_at-requires : goal.split_at-requires
split_at-requires g c =
    omega (arith, c.loop-span.invariant, next_span c.deref-span-items.result.now c.loop-span.span-index (record { offset = 0; count = 0 }) c.loop-span-test.true)

pub loop-span-preserved : goal.loop-span-preserved
loop-span-preserved g c =
    omega (arith, c.loop-span.invariant, next_span c.deref-span-items.result.now c.loop-span.span-index (record { offset = 0; count = 0 }) c.loop-span-test.true, c.split_at.ensures.back_len)
