use Rattle.std.proofs.Common.{◌*◌}
use Rattle.live_paths.specs.Sought.{NoneIsSought}
use Rattle.live_paths.proofs.scan.first_in_block.Given as goal

-- no slot of the block before this one is sought
abbrev pub invariant-loop-slot : goal.invariant-loop-slot
invariant-loop-slot l = NoneIsSought l.frozen l.directory l.sought (16 * l.position) l.slot
