-- What a check of an image gives.
use Rattle.std.specs.Prelude.{◌≡◌, ℕ, List, ◌↔◌}
use Rattle.std.specs.List.{Contains}
use Rattle.findings.specs.declared.finding.Finding.{Finding}
use Rattle.findings.specs.declared.repair.Repair.{Repair}
use Rattle.findings.specs.declared.verdicts.Verdict.{Verdict}
use Rattle.findings.specs.Findings.{AreFindings, IsFinding}
use Rattle.findings.specs.Report.{report_of, verdict_of, repairs_of}
use Rattle.model.specs.Layout.{Geometry}
use Rattle.model.specs.View.{View}
use Rattle.frozen.specs.Kept.{Kept, frozen_view}

-- the image, its findings, the bytes of the report, the verdict, and the repairs
pub record CheckedImage : Type 0 where
  pub frozen : Kept
  pub findings : List Finding
  pub report : List ℕ
  pub verdict : Verdict
  pub repairs : List Repair

-- The findings are the view's, and the report, the verdict and the repairs are those of the findings.
pub record IsChecked (geo : Geometry) (view : View) (checked : CheckedImage) : Type 0 where
  pub findings : AreFindings geo view checked.findings
  pub report : checked.report ≡ report_of checked.findings
  pub verdict : checked.verdict ≡ verdict_of checked.findings
  pub repairs : checked.repairs ≡ repairs_of checked.findings

-- these bytes are the report of the view
abbrev pub IsReport : Geometry → View → List ℕ → Type 0
IsReport geo view report = (fs : List Finding) × AreFindings geo view fs × (report ≡ report_of fs)

-- this is the verdict of the view
abbrev pub IsVerdict : Geometry → View → Verdict → Type 0
IsVerdict geo view verdict = (fs : List Finding) × AreFindings geo view fs × (verdict ≡ verdict_of fs)

-- these are the repairs of the view
abbrev pub AreRepairs : Geometry → View → List Repair → Type 0
AreRepairs geo view repairs = (fs : List Finding) × AreFindings geo view fs × (repairs ≡ repairs_of fs)

-- f is among the found ones exactly where it is a finding of the image
abbrev pub IsFoundIn : Kept → Finding → List Finding → Type 0
IsFoundIn kept f found = Contains found f ↔ IsFinding kept.geometry (frozen_view kept) f
