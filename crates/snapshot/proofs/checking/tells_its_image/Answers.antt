use Rattle.std.proofs.Common.{sym, ap, ◌∙◌, subst}
use Rattle.findings.specs.Findings.{AreFindings}
use Rattle.findings.specs.Report.{report_of, repairs_of, verdict_of}
use Rattle.frozen.specs.Kept.{frozen_view}
use Rattle.snapshot.proofs.checking.tells_its_image.Goals as goal

pub returns : goal.returns
returns c =
    let checked = c.args.checked.now in
    let geo = checked.frozen.geometry in
    let view = frozen_view checked.frozen in
    let found : AreFindings geo view checked.findings = subst (AreFindings geo view) c.findings.ensures.findings c.findings.ensures.are in
    let report = c.report.ensures.is in
    let verdict = c.verdict.ensures.is in
    let repairs = c.repairs.ensures.are in
    record {
      findings = found;
      report = sym c.report.ensures.report ∙ report.2 ∙ ap report_of (c.findings_are_unique.ensures geo view report.0 checked.findings report.1 found);
      verdict = sym c.verdict.ensures.verdict ∙ verdict.2 ∙ ap verdict_of (c.findings_are_unique.ensures geo view verdict.0 checked.findings verdict.1 found);
      repairs = sym c.repairs.ensures.repairs ∙ repairs.2 ∙ ap repairs_of (c.findings_are_unique.ensures geo view repairs.0 checked.findings repairs.1 found);
    }
