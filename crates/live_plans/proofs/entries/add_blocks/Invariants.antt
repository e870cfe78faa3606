use Rattle.std.proofs.Common.{map}
use Rattle.frozen.specs.Kept.{frozen_view}
use Rattle.updates.specs.Values.{cell}
use Rattle.live_plans.proofs.BlockLemmas.{AddsBlocks}
use Rattle.live_plans.proofs.entries.add_blocks.Given as goal

-- the blocks at the positions before
abbrev pub invariant-loop-position : goal.invariant-loop-position
invariant-loop-position l = AddsBlocks l.metadata.geometry (frozen_view l.metadata) l.directory l.position (map cell l.fn.cells.items) (map cell l.cells.items)
