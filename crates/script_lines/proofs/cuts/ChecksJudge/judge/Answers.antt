use Rattle.std.proofs.Common.{◌∙◌}
use Rattle.script_lines.proofs.cuts.ChecksJudge.judge.Goals as goal

pub returns : goal.returns
returns g c =
    let is = c.in_ok-check.ensures.checked tt in
    (is.0, is.1, c.in_ok-check.field-0.findings, is.2.findings, c.verdict.ensures.verdict ∙ is.2.verdict)
