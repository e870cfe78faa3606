use Rattle.std.proofs.Common.{◌≡◌, drop}
use Rattle.left_images.specs.Report.{may_damage}
use Rattle.left_images.proofs.reports.may_damage.Given as goal

abbrev pub invariant-loop-cut : goal.invariant-loop-cut
invariant-loop-cut l = may_damage (drop l.cut-index l.fn.cuts) ≡ may_damage l.fn.cuts
