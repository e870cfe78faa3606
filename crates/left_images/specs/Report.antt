-- What is printed of what a power cut may leave.
use Rattle.std.specs.Prelude.{ℕ, suc, Bool, true, false, List, [], ◌∷◌, ◌++◌}
use Rattle.std.proofs.Common.{codes}
use Rattle.std.specs.Fmt.{decimal}
use Rattle.findings.specs.Report.{line, verdict_text}
use Rattle.findings.specs.declared.verdicts.Verdict.{Verdict}
use Rattle.findings.specs.declared.verdicts.Verdict.TheVariants.{Clean, Soft, Damaged}
use Rattle.left_images.specs.declared.judging.Cut.{Cut}

-- the line of a moment
abbrev pub cut_line : ℕ → Cut → List ℕ
cut_line moment cut = line (codes "cut " ++ decimal moment ++ codes " loose " ++ decimal cut.loose ++ codes " images " ++ decimal cut.images ++ codes " verdict " ++ verdict_text cut.worst)

-- the lines of moments from this one on
abbrev pub lines_from : ℕ → List Cut → List ℕ
lines_from moment [] = []
lines_from moment (cut ∷ cuts) = cut_line moment cut ++ lines_from (suc moment) cuts

-- the lines of all moments
abbrev pub report_of : List Cut → List ℕ
report_of cuts = lines_from 0 cuts

abbrev pub or_damaged : Verdict → Bool → Bool
or_damaged Clean before = before
or_damaged Soft before = before
or_damaged Damaged before = true

-- whether there is a moment at which a damaged image may be left
abbrev pub may_damage : List Cut → Bool
may_damage [] = false
may_damage (cut ∷ cuts) = or_damaged cut.worst (may_damage cuts)
