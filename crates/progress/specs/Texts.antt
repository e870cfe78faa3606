-- What stands in the line.
use Rattle.std.specs.Prelude.{ℕ, ◌-◌, List, ◌∷◌, ◌++◌, length, replicate}
use Rattle.std.specs.Fmt.{decimal}
use Rattle.std.proofs.Common.{codes}
use Rattle.progress.specs.declared.step.Step.{Step}
use Rattle.progress.specs.declared.step.Step.TheVariants.{Group, Moved}

abbrev pub step_text : Step → List ℕ
step_text (Group phase group) = codes "phase " ++ (decimal phase ++ (codes " group " ++ decimal group))
step_text (Moved tally) = codes "files " ++ (decimal tally.files ++ (codes " bytes " ++ decimal tally.bytes))

-- a text with the carriage return before it
abbrev pub line_text : Step → List ℕ
line_text step = 13 ∷ step_text step

-- what is written over a text of so many bytes: the new text, and blanks over what is left of the old one
abbrev pub renewal : ℕ → Step → List ℕ
renewal width step = line_text step ++ replicate (width - length (line_text step)) 32
