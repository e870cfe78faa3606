use Rattle.std.proofs.Common.{◌≡◌, ◌++◌, drop}
use Rattle.std.specs.String.{string_bytes}
use Rattle.left_images.specs.Report.{lines_from, report_of}
use Rattle.left_images.proofs.reports.report.Given as goal

abbrev pub invariant-loop-moment : goal.invariant-loop-moment
invariant-loop-moment l = string_bytes l.text ++ lines_from l.moment (drop l.moment l.fn.cuts) ≡ report_of l.fn.cuts
