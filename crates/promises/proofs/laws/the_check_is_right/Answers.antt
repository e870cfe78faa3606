use Rattle.std.proofs.Common.{◌∙◌, ap}
use Rattle.findings.specs.Report.{repairs_of, report_of}
use Rattle.promises.proofs.laws.the_check_is_right.Goals as goal

pub returns : goal.returns
returns c = λ geo view checked findings is are.
    let same = c.findings_are_unique.ensures geo view checked.findings findings is.findings are in
    (same, is.report ∙ ap report_of same, is.repairs ∙ ap repairs_of same)
