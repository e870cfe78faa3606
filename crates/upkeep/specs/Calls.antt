-- What is asked of a volume to mend it.
use Rattle.std.specs.Prelude.{◌≡◌, ◌⊎◌, ◌++◌, ℕ, suc, Bool, true, false, if◌then◌else◌, IsTrue, List, [], ◌∷◌, All, Result, Ok, Err, length}
use Rattle.std.specs.declared.alloc.Global.{Global}
use Rattle.std.specs.Arc.{arc_value}
use Rattle.std.specs.declared.sync.Arc.{Arc}
use Rattle.fsck.specs.Checked.{CheckedImage, IsChecked}
use Rattle.frozen.specs.Kept.{Kept, frozen_view}
use Rattle.layout.specs.declared.refusal.Refusal.{Refusal}
use Rattle.layout.specs.declared.refusal.Refusal.TheVariants.{AlreadyDone, ForeignPlan, NoPlan, NoSnapshot}
use Rattle.snapshot.specs.declared.answer.Answer.{Answer}
use Rattle.snapshot.specs.declared.answer.Answer.TheVariants.{Image}
use Rattle.snapshot.specs.declared.command.Command.{Command}
use Rattle.snapshot.specs.declared.command.Command.TheVariants.{Freeze, Install, Release, Repair}

-- a command, and the reply to it
abbrev pub Call : Type 0
Call = Command × Result Answer Refusal

-- a command was carried out that was answered so
abbrev pub is_answered : Result Answer Refusal → Bool
is_answered (Ok answer) = true
is_answered (Err r) = false

-- how many of these were
abbrev pub count_done : List Call → ℕ
count_done [] = 0
count_done (call ∷ calls) = if is_answered call.1 then suc (count_done calls) else count_done calls

-- a repair was carried out now or before, or belongs to no check any more
abbrev pub is_passed : Result Answer Refusal → Bool
is_passed (Ok answer) = true
is_passed (Err AlreadyDone) = true
is_passed (Err NoPlan) = true
is_passed (Err r) = false

-- They ask the repairs of the places from n on, each once and in order, and none was refused otherwise.
abbrev pub AreRepairs : ℕ → List Call → Type 0
AreRepairs n [] = Unit {0}
AreRepairs n (call ∷ calls) = (call.0 ≡ Repair n) × IsTrue (is_passed call.1) × AreRepairs (suc n) calls

-- The last of these found no check that is installed any more.
abbrev pub AreDropped : List Call → Type 0
AreDropped calls = (before : List Call) × (command : Command) × (calls ≡ before ++ (command, Err NoPlan) ∷ [])

-- The repairs of so many places were asked, up to the last or to one that found no check any more; this many were carried out.
pub record AsksRepairs (before after : List Call) (places done : ℕ) : Type 0 where
  pub repairs : List Call
  pub calls : after ≡ before ++ repairs
  pub in_order : AreRepairs 0 repairs
  pub all : (length repairs ≡ places) ⊎ AreDropped repairs
  pub counted : done ≡ count_done repairs

-- a command that installs a check or carries out a repair
abbrev pub is_mending : Command → Bool
is_mending (Install checked) = true
is_mending (Repair place) = true
is_mending _ = false

-- nothing else was asked
abbrev pub Inner : List Call → List Call → Type 0
Inner before after = (more : List Call) × (after ≡ before ++ more) × All (λ (call : Call). IsTrue (is_mending call.0)) more

-- This check was installed: that is all that was asked.
pub record Installed (before after : List Call) (checked : CheckedImage) : Type 0 where
  pub copy : Arc CheckedImage Global
  pub same : arc_value copy ≡ checked
  pub answer : Answer
  pub calls : after ≡ before ++ (Install copy, Ok answer) ∷ []

-- It was, and is the check of this snapshot; and then its repairs were asked, of which so many were carried out.
pub record HasRepaired (before after : List Call) (snapshot : Kept) (checked : CheckedImage) (repaired : ℕ) : Type 0 where
  pub frozen : checked.frozen ≡ snapshot
  pub check : IsChecked snapshot.geometry (frozen_view snapshot) checked
  pub middle : List Call
  pub installed : Installed before middle checked
  pub repairs : AsksRepairs middle after (length checked.repairs) repaired

-- Between the freeze of a snapshot and its end the check of the snapshot was installed, and its repairs were asked.
pub record HasMended (before after : List Call) (checked : CheckedImage) (repaired : ℕ) : Type 0 where
  pub number : ℕ
  pub frozen : Arc Kept Global
  pub end : List Call
  pub inside : HasRepaired (before ++ (Freeze, Ok (Image number frozen)) ∷ []) end (arc_value frozen) checked repaired
  pub released : Answer
  pub calls : after ≡ end ++ (Release number, Ok released) ∷ []

-- another snapshot than that of the check is the latest, or none is
abbrev pub is_foreign : Refusal → Bool
is_foreign NoSnapshot = true
is_foreign ForeignPlan = true
is_foreign _ = false

-- A check was not installed, since it is none of the latest snapshot: that is all that was asked.
pub record IsForeign (before after : List Call) : Type 0 where
  pub copy : Arc CheckedImage Global
  pub refusal : Refusal
  pub foreign : IsTrue (is_foreign refusal)
  pub calls : after ≡ before ++ (Install copy, Err refusal) ∷ []

-- The same between the freeze of a snapshot and its end.
pub record WasForeign (before after : List Call) : Type 0 where
  pub number : ℕ
  pub frozen : Arc Kept Global
  pub end : List Call
  pub inside : IsForeign (before ++ (Freeze, Ok (Image number frozen)) ∷ []) end
  pub released : Answer
  pub calls : after ≡ end ++ (Release number, Ok released) ∷ []

-- A snapshot was refused, and nothing else asked; or one was taken, and ended behind what mends.
abbrev pub EndsItsSnapshot : List Call → List Call → Type 0
EndsItsSnapshot before after =
    ((reply : Result Answer Refusal) × (after ≡ before ++ (Freeze, reply) ∷ []))
    ⊎ ((number : ℕ) × (frozen : Arc Kept Global) × (end : List Call) × Inner (before ++ (Freeze, Ok (Image number frozen)) ∷ []) end
    × (released : Result Answer Refusal) × (after ≡ end ++ (Release number, released) ∷ []))
