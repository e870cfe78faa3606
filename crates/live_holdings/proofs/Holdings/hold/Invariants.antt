use Rattle.std.proofs.Common.{◌≡◌, take}
use Rattle.live_states.specs.Holdings.{holding}
use Rattle.live_holdings.proofs.Holdings.hold.Given as goal

-- the blocks so far are held too
abbrev pub invariant-loop-block : goal.invariant-loop-block
invariant-loop-block l =
    (l.self-inside.handles ≡ l.initial.self-inside.handles) × (l.self-inside.snapshots ≡ l.initial.self-inside.snapshots) × (l.self-inside.repairs ≡ l.initial.self-inside.repairs)
    × (l.self-inside.held ≡ holding (take l.block-index l.fn.blocks) l.initial.self-inside.held)
