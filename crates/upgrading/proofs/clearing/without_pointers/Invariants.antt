use Rattle.std.proofs.Common.{◌≡◌}
use Rattle.upgrading.specs.Steps.{cleared_below}
use Rattle.upgrading.proofs.clearing.without_pointers.Given as goal

abbrev pub invariant-loop-place : goal.invariant-loop-place
invariant-loop-place l = l.block ≡ cleared_below l.place l.fn.records
