use Rattle.std.proofs.Common.{◌≡◌, [], take}
use Rattle.plans_data.specs.Release.{releasing}
use Rattle.live_states.specs.Drafts.{over}
use Rattle.live.proofs.snapshots.clearing.Given as goal

-- the bits of the blocks so far are cleared
abbrev pub invariant-loop-block : goal.invariant-loop-block
invariant-loop-block l = (l.plan.geometry ≡ l.fn.geometry) × (over [] l.plan.updates ≡ releasing (take l.block-index l.fn.blocks) [])
