-- The status that the program ends with where an image was checked.
use Rattle.std.specs.Prelude.{ℕ}
use Rattle.findings.specs.declared.verdicts.Verdict.{Verdict}
use Rattle.findings.specs.declared.verdicts.Verdict.TheVariants as verdict

abbrev pub status_of_verdict : Verdict → ℕ
status_of_verdict verdict.Clean = 0
status_of_verdict verdict.Soft = 1
status_of_verdict verdict.Damaged = 2
