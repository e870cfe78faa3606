-- What is printed of the number maps.
use Rattle.std.specs.Prelude.{ℕ, List, ◌++◌, codes}
use Rattle.std.specs.List.{flat_map}
use Rattle.findings.specs.declared.finding.Finding.{Finding}
use Rattle.findings.specs.Report.{finding_text, line, verdict_of, verdict_text}

-- a line for each finding, and the verdict over these alone
abbrev pub finding_lines : List Finding → List ℕ
finding_lines findings = flat_map (λ f. line (finding_text f)) findings

abbrev pub bits_text : List Finding → List ℕ
bits_text findings = finding_lines findings ++ line (codes "verdict " ++ verdict_text (verdict_of findings))
