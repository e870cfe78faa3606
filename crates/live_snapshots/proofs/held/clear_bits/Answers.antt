-- Each turn clears the bit of the next block that is held.
use Rattle.std.proofs.Common.{arith}
use Rattle.live_snapshots.proofs.Unmarking.{first_clear, next_clear}
use Rattle.live_snapshots.proofs.held.clear_bits.Goals as goal

pub loop-next-init : goal.loop-next-init
loop-next-init c = (
  first_clear c.args.geometry.now c.args.holdings.now c.args.address c.args.group c.requires.place.1 c.args.maps.now c.put.new.block c.put.ensures.view c.put.ensures.group_block c.requires.held,
  omega arith,
  omega (arith, c.requires.held.within),
)

pub loop-next-preserved : goal.loop-next-preserved
loop-next-preserved c = (
  next_clear c.args.geometry.now c.args.holdings.now c.in-Some.next c.args.group c.in-Some.ensures.2 c.loop-next.maps c.put-in-Some.new.block c.put-in-Some.ensures.view c.put-in-Some.ensures.group_block
      c.args.address c.loop-next.end c.args.maps.now (omega (arith, c.loop-next.invariant.1)) c.in-Some.ensures.0 c.loop-next.invariant.0,
  omega (arith, c.loop-next.invariant.1, c.in-Some.ensures.0.above),
  omega (arith, c.in-Some.ensures.0.within),
)
