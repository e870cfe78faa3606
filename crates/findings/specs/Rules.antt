-- The rules that findings show broken.
use Rattle.std.specs.Prelude.{ℕ, ◌<◌, ◌≤◌}
use Rattle.findings.specs.declared.finding.Finding.{Finding}
use Rattle.findings.specs.declared.finding.Finding.TheVariants.{BadInode, BadPointer, Duplicate, RootBad, BadSlot, DupName, BadDot, BadDotDot, ToUnsound, ExtraName, CountLow, UnmarkedBlock, UnmarkedInode}
use Rattle.findings.specs.Findings.{IsFinding}
use Rattle.model.specs.Layout.{Geometry}
use Rattle.model.specs.View.{View}

-- the number of the rule that a finding shows broken, from 1 to 8; 0 for the soft kinds, which break none
abbrev pub rule_of : Finding → ℕ
rule_of RootBad = 1
rule_of (BadInode i) = 2
rule_of (BadPointer i k v) = 3
rule_of (Duplicate i k a) = 3
rule_of (UnmarkedBlock a) = 3
rule_of (UnmarkedInode i) = 4
rule_of (BadDot d) = 5
rule_of (BadDotDot d) = 5
rule_of (BadSlot d s) = 6
rule_of (DupName d s) = 6
rule_of (ToUnsound d s) = 6
rule_of (ExtraName d s) = 7
rule_of (CountLow i l e) = 8
rule_of _ = 0

-- no finding shows one of the rules 1 to n broken
abbrev pub NoneBreaksUpTo : Geometry → View → ℕ → Type 0
NoneBreaksUpTo geo view n = (f : Finding) → IsFinding geo view f → 1 ≤ rule_of f → n < rule_of f
