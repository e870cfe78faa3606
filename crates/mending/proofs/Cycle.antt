-- A snapshot, its check, its repairs, its end and a sync leave a device on which a check finds nothing.
use Rattle.std.proofs.Common.{◌≡◌, ◌+◌, ℕ, Bool, true, ◌&&◌, List, [], ◌∷◌, ◌++◌, length, refl, sym, ap, ap₂, ◌∙◌, subst, arith, Ok, Some}
use Rattle.std.specs.Prelude.{slice_get}
use Rattle.std.specs.List.{list_all}
use Rattle.std.proofs.lemmas.Bool.{and_from}
use Rattle.std.proofs.lemmas.List.{length-append}
use Rattle.std.proofs.lemmas.List.Folds.{list_all-append}
use Rattle.std.proofs.lemmas.Option.{slice_get_within}
use Rattle.findings.specs.Report.{repairs_of}
use Rattle.findings.specs.declared.finding.Finding.{Finding}
use Rattle.findings.specs.declared.repair.Repair.{Repair}
use Rattle.model.specs.Layout.{Geometry}
use Rattle.model.specs.View.{View}
use Rattle.machine.specs.Command.{Answer, Check, Command, Done, Freeze, Image, Install, RepairAt, Release, Sync}
use Rattle.machine.specs.Runs.{IsTaken}
use Rattle.machine.specs.Snapshot.{settled}
use Rattle.machine.specs.Standing.{Snapshots, begun, none_yet, others}
use Rattle.machine.specs.State.{State}
use Rattle.machine.specs.Step.{Run, Step}
use Rattle.mending.specs.Repairs.{all_done, repairs_below, then_asked, then_replied}
use Rattle.mending.proofs.Upkeep.{all_repairs, as_many, each_taken, is_no_freeze, is_upkeep, last_step, none_taken, repairs_snapshots, run_opened}

passed : (p : Command → Bool) (s : ℕ) → ((k : ℕ) → p (RepairAt k) ≡ true) → p (Release s) ≡ true → p Sync ≡ true → (n : ℕ) → list_all p (then_asked s n) ≡ true
passed p s each release sync n =
    list_all-append p (repairs_below n ++ Release s ∷ []) (Sync ∷ [])
    ∙ and_from (list_all p (repairs_below n ++ Release s ∷ [])) (p Sync && true)
    (list_all-append p (repairs_below n) (Release s ∷ []) ∙ and_from (list_all p (repairs_below n)) (p (Release s) && true) (all_repairs p each n) (and_from (p (Release s)) true release refl))
    (and_from (p Sync) true sync refl)

pub no_freeze : (s n : ℕ) (answer : Answer) → IsTaken Freeze (then_asked s n) (then_replied n answer) → ⊥
no_freeze s n answer = none_taken (then_asked s n) (then_replied n answer) (passed is_no_freeze s (λ k. refl) refl refl n)

append_three : {A : Type 0} (xs : List A) (x y : A) → (xs ++ x ∷ []) ++ y ∷ [] ≡ xs ++ (x ∷ y ∷ [])
append_three [] x y = refl
append_three (z ∷ xs) x y = ap (λ rest. z ∷ rest) (append_three xs x y)

pub each_repaired : (findings : List Finding) (s n : ℕ) (answer : Answer) → length (repairs_of findings) ≡ n → (k : ℕ) (r : Repair) → slice_get (repairs_of findings) k ≡ Some r → IsTaken (RepairAt k) (then_asked s n) (then_replied n answer)
each_repaired findings s n answer count k r there =
    let low = slice_get_within (repairs_of findings) k r there in
    subst (λ cs. IsTaken (RepairAt k) cs (then_replied n answer)) (sym (append_three (repairs_below n) (Release s) Sync))
    (subst (λ rs. IsTaken (RepairAt k) (repairs_below n ++ (Release s ∷ Sync ∷ [])) rs) (sym (append_three (all_done n) (Ok Done) (Ok answer)))
    (each_taken n (Release s ∷ Sync ∷ []) (Ok Done ∷ Ok answer ∷ []) k (omega (arith, low, count))))

-- a run of the whole cycle, with snapshot number
abbrev Cycles : Geometry → State → Check → ℕ → View → ℕ → Answer → State → Type 0
Cycles geo old check number frozen n answer new = Run geo old (Freeze ∷ Install check ∷ then_asked number n) (Ok (Image number frozen) ∷ Ok Done ∷ then_replied n answer) new

-- nothing is open then that was not
pub stays_open : (geo : Geometry) (old new : State) (check : Check) (number : ℕ) (frozen : View) (n : ℕ) (answer : Answer) → Cycles geo old check number frozen n answer new → new.opened ≡ old.opened
stays_open geo old new check number frozen n answer run =
    run_opened geo old new (Freeze ∷ Install check ∷ then_asked number n) (Ok (Image number frozen) ∷ Ok Done ∷ then_replied n answer) (passed is_upkeep number (λ k. refl) refl refl n) run

-- and no snapshot stands, where there was no freeze before
synced_same : (geo : Geometry) (old new : State) (answer : Answer) → Step geo old Sync (Ok answer) new → new ≡ old
synced_same geo old new Done s = s.1
synced_same geo old new _ s = absurd s.1

same_number : (m n : ℕ) (v w : View) → Image m v ≡ Image n w → m ≡ n
same_number m n v w e = cc

pub stands_alone : (geo : Geometry) (old new : State) (check : Check) (number : ℕ) (frozen : View) (n : ℕ) (answer : Answer) → old.snapshots ≡ none_yet → Cycles geo old check number frozen n answer new
    → new.snapshots.standing ≡ []
stands_alone geo old new check number frozen n answer none run =
    let before = repairs_below n ++ Release number ∷ [] in
    let replied = all_done n ++ Ok Done ∷ [] in
    let count : length replied ≡ length before = length-append (all_done n) (Ok Done ∷ []) ∙ ap (λ m. m + 1) (as_many n) ∙ sym (length-append (repairs_below n) (Release number ∷ [])) in
    let last = last_step geo run.2.0 new before Sync replied (Ok answer) count run.2.2 in
    let release = last_step geo run.2.0 last.0 (repairs_below n) (Release number) (all_done n) (Ok Done) (as_many n) last.1 in
    let image = settled geo old in
    let is_first : number ≡ 0 = same_number number old.snapshots.freezes frozen image run.1.1.0 ∙ ap (λ (x : Snapshots View). x.freezes) none in
    let stood : release.0.snapshots ≡ begun old.snapshots image =
    repairs_snapshots geo run.2.0 release.0 n release.1 ∙ ap (λ (s : State). s.snapshots) run.2.1.1.whole ∙ ap (λ (s : State). s.snapshots) run.1.1.1 in
    ap (λ (s : State). s.snapshots.standing) (synced_same geo last.0 new answer last.2) ∙ ap (λ (s : State). s.snapshots.standing) release.2.1
    ∙ ap (λ (x : Snapshots View). others x.standing number) stood ∙ ap₂ (λ (x : Snapshots View) (m : ℕ). others (begun x image).standing m) none is_first
