use Rattle.std.proofs.Common.{◌*◌}
use Rattle.live_paths.specs.Sought.{NoneIsSought}
use Rattle.live_paths.proofs.scan.first.Given as goal

-- no slot of the blocks before is sought
abbrev pub invariant-loop-position : goal.invariant-loop-position
invariant-loop-position l = NoneIsSought l.frozen l.directory l.sought 0 (16 * l.position)
