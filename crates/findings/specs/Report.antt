-- The text of a report, its verdict, and the repairs.
use Rattle.std.specs.Prelude.{ℕ, ◌-◌, List, [], ◌∷◌, ◌++◌, length, Option, Some, None, if◌then◌else◌, ◌==◌}
use Rattle.std.specs.List.{filter, filter_map, flat_map, list_all}
use Rattle.std.proofs.Common.{codes}
use Rattle.std.specs.Fmt.{decimal}
use Rattle.findings.specs.declared.finding.Finding.{Finding}
use Rattle.findings.specs.declared.finding.Finding.TheVariants.{BadInode, BadPointer, Duplicate, RootBad, BadSlot, DupName, BadDot, BadDotDot, ToUnsound, ExtraName, LostInode, CountHigh, CountLow, LostBlock, UnmarkedBlock, LostNumber, UnmarkedInode}
use Rattle.findings.specs.declared.repair.Repair.{Repair}
use Rattle.findings.specs.declared.repair.Repair.TheVariants.{DropInode, LowerCount, FreeBlock, FreeNumber}
use Rattle.findings.specs.declared.verdicts.Verdict.{Verdict}
use Rattle.findings.specs.declared.verdicts.Verdict.TheVariants.{Clean, Soft, Damaged}
use Rattle.findings.specs.Findings.{is_soft}

-- one text and then another
infixr 65 ◌⌢◌
abbrev pub ◌⌢◌ : List ℕ → List ℕ → List ℕ
xs ⌢ ys = xs ++ ys

-- the line of a finding, without the blanks before it
abbrev pub finding_text : Finding → List ℕ
finding_text (BadInode i) = codes "bad inode " ⌢ decimal i
finding_text (BadPointer i k v) = codes "bad pointer " ⌢ decimal i ⌢ codes " position " ⌢ decimal k ⌢ codes " value " ⌢ decimal v
finding_text (Duplicate i k a) = codes "duplicate " ⌢ decimal i ⌢ codes " position " ⌢ decimal k ⌢ codes " block " ⌢ decimal a
finding_text RootBad = codes "bad root"
finding_text (BadSlot d s) = codes "bad slot " ⌢ decimal d ⌢ codes " slot " ⌢ decimal s
finding_text (DupName d s) = codes "repeated name " ⌢ decimal d ⌢ codes " slot " ⌢ decimal s
finding_text (BadDot d) = codes "bad dot " ⌢ decimal d
finding_text (BadDotDot d) = codes "bad dot dot " ⌢ decimal d
finding_text (ToUnsound d s) = codes "name of no sound inode " ⌢ decimal d ⌢ codes " slot " ⌢ decimal s
finding_text (ExtraName d s) = codes "second name " ⌢ decimal d ⌢ codes " slot " ⌢ decimal s
finding_text (LostInode i) = codes "lost inode " ⌢ decimal i
finding_text (CountHigh i l e) = codes "count high " ⌢ decimal i ⌢ codes " links " ⌢ decimal l ⌢ codes " entries " ⌢ decimal e
finding_text (CountLow i l e) = codes "count low " ⌢ decimal i ⌢ codes " links " ⌢ decimal l ⌢ codes " entries " ⌢ decimal e
finding_text (LostBlock a) = codes "lost block " ⌢ decimal a
finding_text (UnmarkedBlock a) = codes "unmarked block " ⌢ decimal a
finding_text (LostNumber i) = codes "lost number " ⌢ decimal i
finding_text (UnmarkedInode i) = codes "unmarked inode " ⌢ decimal i

-- the phase that finds it
abbrev pub phase_of : Finding → ℕ
phase_of (BadInode i) = 1
phase_of (BadPointer i k v) = 1
phase_of (Duplicate i k a) = 1
phase_of RootBad = 2
phase_of (BadSlot d s) = 2
phase_of (DupName d s) = 2
phase_of (BadDot d) = 2
phase_of (BadDotDot d) = 2
phase_of (ToUnsound d s) = 2
phase_of (ExtraName d s) = 2
phase_of (LostInode i) = 3
phase_of (CountHigh i l e) = 4
phase_of (CountLow i l e) = 4
phase_of (LostBlock a) = 5
phase_of (UnmarkedBlock a) = 5
phase_of (LostNumber i) = 5
phase_of (UnmarkedInode i) = 5

-- the repair of a finding of a soft kind
abbrev pub repair_of : Finding → Option Repair
repair_of (LostInode i) = Some (DropInode i)
repair_of (CountHigh i l e) = Some (LowerCount i (l - e))
repair_of (LostBlock a) = Some (FreeBlock a)
repair_of (LostNumber i) = Some (FreeNumber i)
repair_of _ = None

-- one repair for each finding, if all are of soft kinds, else none at all
abbrev pub repairs_of : List Finding → List Repair
repairs_of fs = if list_all is_soft fs then filter_map repair_of fs else []

abbrev pub verdict_of : List Finding → Verdict
verdict_of fs = if length fs == 0 then Clean else (if list_all is_soft fs then Soft else Damaged)

abbrev pub repair_text : Repair → List ℕ
repair_text (DropInode i) = codes "drop inode " ⌢ decimal i
repair_text (LowerCount i x) = codes "lower count " ⌢ decimal i ⌢ codes " by " ⌢ decimal x
repair_text (FreeBlock a) = codes "free block " ⌢ decimal a
repair_text (FreeNumber i) = codes "free number " ⌢ decimal i

abbrev pub verdict_text : Verdict → List ℕ
verdict_text Clean = codes "clean"
verdict_text Soft = codes "soft"
verdict_text Damaged = codes "damaged"

-- a line with its line feed
abbrev pub line : List ℕ → List ℕ
line text = text ++ 10 ∷ []

-- a phase's heading and the lines of its findings, with two blanks before each
abbrev pub phase_lines : List Finding → ℕ → List ℕ → List ℕ
phase_lines fs phase heading = line heading ++ flat_map (λ f. line (codes "  " ++ finding_text f)) (filter (λ f. phase_of f == phase) fs)

-- how many findings and repairs there are, and the verdict
abbrev pub summary_of : List Finding → List ℕ
summary_of fs =
    line (codes "findings " ++ decimal (length fs))
    ++ line (codes "repairs " ++ decimal (length (repairs_of fs)))
    ++ line (codes "verdict " ++ verdict_text (verdict_of fs))

-- the report of these findings
abbrev pub report_of : List Finding → List ℕ
report_of fs =
    phase_lines fs 1 (codes "phase 1 blocks and sizes")
    ++ phase_lines fs 2 (codes "phase 2 names")
    ++ phase_lines fs 3 (codes "phase 3 connectivity")
    ++ phase_lines fs 4 (codes "phase 4 reference counts")
    ++ phase_lines fs 5 (codes "phase 5 maps")
    ++ summary_of fs
