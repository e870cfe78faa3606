use Rattle.std.proofs.Common.{◌≡◌, ◌++◌, take}
use Rattle.std.specs.String.{string_bytes}
use Rattle.findings.specs.Report.{phase_lines}
use Rattle.findings.proofs.reports.write_phase.Given as goal

abbrev pub invariant-loop-finding : goal.invariant-loop-finding
invariant-loop-finding l = string_bytes l.text ≡ string_bytes l.fn.text ++ phase_lines (take l.finding-index l.findings) l.phase l.heading
