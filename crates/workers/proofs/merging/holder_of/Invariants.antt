use Rattle.std.proofs.Common.{◌≡◌, ℕ, ◌-◌, ◌<◌, ◌≤◌, false, length, slice_index_or}
use Rattle.workers.specs.Turns.{begins_with}
use Rattle.workers.proofs.merging.holder_of.Given as goal

abbrev pub invariant-loop-holder : goal.invariant-loop-holder
invariant-loop-holder g l = record {
  within : l.holder ≤ length l.lists;
  before : (k : ℕ) (d : _) → k < l.holder → begins_with l.unit (slice_index_or l.lists k d).items ≡ false;
}

abbrev pub decreases-loop-holder : goal.decreases-loop-holder
decreases-loop-holder g l = length l.lists - l.holder
