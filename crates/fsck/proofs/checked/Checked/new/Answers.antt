use Rattle.std.proofs.Common.{ap, ◌∙◌}
use Rattle.findings.specs.Report.{report_of, verdict_of, repairs_of}
use Rattle.fsck.proofs.checked.Checked.new.Goals as goal

pub invariant_of-result : goal.invariant_of-result
invariant_of-result c = record {
  findings = c.requires;
  report = c.in_ok-report.ensures.report ∙ ap report_of c.as_slice.ensures.value;
  verdict = c.verdict-verdict.ensures ∙ ap verdict_of c.as_slice-2.ensures.value;
  repairs = c.in_ok-repairs.ensures.repairs ∙ ap repairs_of c.as_slice-3.ensures.value;
}

pub returns-clause-checked : goal.returns-clause-checked
returns-clause-checked c = invariant_of-result c
