-- A snapshot, its check, and the check's repairs, among other commands.
use Rattle.std.specs.Prelude.{◌≡◌, ℕ, List, ◌∷◌, ◌++◌, Ok, Some, length, slice_get}
use Rattle.findings.specs.Findings.{AreFindings}
use Rattle.findings.specs.Report.{repairs_of}
use Rattle.findings.specs.declared.finding.Finding.{Finding}
use Rattle.findings.specs.declared.repair.Repair.{Repair}
use Rattle.machine.specs.Command.{Check, Command, Done, Freeze, Image, Install, RepairAt, Reply}
use Rattle.machine.specs.Runs.{IsTaken}
use Rattle.model.specs.Layout.{Geometry}
use Rattle.model.specs.View.{View}

-- Commands with these replies have a snapshot, a check of it that was installed, and each of the check's repairs carried out, and no other snapshot since.
pub record HasCycle (geo : Geometry) (commands : List Command) (responses : List Reply) : Type 0 where
  pub number : ℕ
  pub frozen : View
  pub check : Check
  pub findings : List Finding
  pub earlier : List Command
  pub first : List Command
  pub second : List Command
  pub before : List Reply
  pub replies : List Reply
  pub answers : List Reply
  pub commands_are : commands ≡ earlier ++ (Freeze ∷ (first ++ (Install check ∷ second)))
  pub responses_are : responses ≡ before ++ (Ok (Image number frozen) ∷ (replies ++ (Ok Done ∷ answers)))
  pub as_many : length before ≡ length earlier
  pub as_many_first : length replies ≡ length first
  pub no_freeze_first : IsTaken Freeze first replies → ⊥
  pub no_freeze_second : IsTaken Freeze second answers → ⊥
  pub found : AreFindings geo frozen findings
  pub each : (k : ℕ) (r : Repair) → slice_get (repairs_of findings) k ≡ Some r → IsTaken (RepairAt k) second answers
