-- A plan owes just what its snapshot did, so to install it keeps the balance.
use Rattle.std.proofs.Common.{◌≡◌, ◌-◌, ℕ, true, false, List, [], ◌∷◌, refl, sym, ap, ap₂, ◌∙◌, subst, IsTrue, Option, Some, None, Contains}
use Rattle.std.specs.Prelude.{slice_get, is_some}
use Rattle.std.specs.List.{filter_map, list_all}
use Rattle.std.proofs.lemmas.Bool.{and_from, both_ways}
use Rattle.model.specs.Layout.{Geometry}
use Rattle.model.specs.View.{View}
use Rattle.model.proofs.Finite.{entries_once}
use Rattle.findings.specs.declared.finding.Finding.{Finding}
use Rattle.findings.specs.declared.finding.Finding.TheVariants.{LostInode, CountHigh, LostBlock, LostNumber}
use Rattle.findings.specs.declared.repair.Repair.{Repair}
use Rattle.findings.specs.declared.repair.Repair.TheVariants.{DropInode, LowerCount, FreeBlock, FreeNumber}
use Rattle.findings.specs.Findings.{is_soft, IsFinding, AreFindings}
use Rattle.findings.specs.Report.{repair_of, repairs_of}
use Rattle.findings.proofs.RepairLemmas.{repairs_where_soft}
use Rattle.findings.proofs.Sorted.{Contains-here, Contains-there}
use Rattle.findings.proofs.Soft.{soft_from_rules}
use Rattle.layout.specs.declared.refusal.Refusal.TheVariants.{PlanStands}
use Rattle.model.specs.Rules.{ObeysRules}
use Rattle.machine.specs.Whole.{HasWholeBlocks}
use Rattle.machine.specs.State.{State, Plan, latest}
use Rattle.machine.specs.Command.{Check, Install}
use Rattle.machine.specs.Causes.{causes, refusal_of}
use Rattle.machine.specs.Snapshot.{Installs}
use Rattle.machine.specs.Balance.{Balance, Owes, OwesBy, Mends, IsUndone, StandOnce}
use Rattle.machine.specs.Debts.{MakesNoDebt}
use Rattle.machine.proofs.Debts.{already}
use Rattle.machine.proofs.Walks.{quiet, when_none}
use Rattle.machine.proofs.Ledger.{ledger, no_slack, replan, balance_by}
use Rattle.machine.proofs.PlanLists.{found_at, contains_at, at_once, finding_of, repair_at}
use Rattle.machine.proofs.Snapshots.{latest_number}

-- ---- a repair mends one finding of an image

drop_from : (f : Finding) (i : ℕ) → repair_of f ≡ Some (DropInode i) → f ≡ LostInode i
drop_from (LostInode j) i e = cc
drop_from (CountHigh j l n) i e = let bad : Some (LowerCount j (l - n)) ≡ Some (DropInode i) = e in absurd cc
drop_from (LostBlock b) i e = let bad : Some (FreeBlock b) ≡ Some (DropInode i) = e in absurd cc
drop_from (LostNumber j) i e = let bad : Some (FreeNumber j) ≡ Some (DropInode i) = e in absurd cc
drop_from _ i e = let bad : None ≡ Some (DropInode i) = e in absurd cc

block_from : (f : Finding) (a : ℕ) → repair_of f ≡ Some (FreeBlock a) → f ≡ LostBlock a
block_from (LostBlock b) a e = cc
block_from (LostInode j) a e = let bad : Some (DropInode j) ≡ Some (FreeBlock a) = e in absurd cc
block_from (CountHigh j l n) a e = let bad : Some (LowerCount j (l - n)) ≡ Some (FreeBlock a) = e in absurd cc
block_from (LostNumber j) a e = let bad : Some (FreeNumber j) ≡ Some (FreeBlock a) = e in absurd cc
block_from _ a e = let bad : None ≡ Some (FreeBlock a) = e in absurd cc

number_from : (f : Finding) (i : ℕ) → repair_of f ≡ Some (FreeNumber i) → f ≡ LostNumber i
number_from (LostNumber j) i e = cc
number_from (LostInode j) i e = let bad : Some (DropInode j) ≡ Some (FreeNumber i) = e in absurd cc
number_from (CountHigh j l n) i e = let bad : Some (LowerCount j (l - n)) ≡ Some (FreeNumber i) = e in absurd cc
number_from (LostBlock b) i e = let bad : Some (FreeBlock b) ≡ Some (FreeNumber i) = e in absurd cc
number_from _ i e = let bad : None ≡ Some (FreeNumber i) = e in absurd cc

count_from : (f : Finding) (i x : ℕ) → repair_of f ≡ Some (LowerCount i x) → (l : ℕ) × (n : ℕ) × (f ≡ CountHigh i l n)
count_from (CountHigh j l n) i x e = (l, n, ap (λ k. CountHigh k l n) (same_number e))
  where
    same_number : Some (LowerCount j (l - n)) ≡ Some (LowerCount i x) → j ≡ i
    same_number e = cc
count_from (LostInode j) i x e = let bad : Some (DropInode j) ≡ Some (LowerCount i x) = e in absurd cc
count_from (LostBlock b) i x e = let bad : Some (FreeBlock b) ≡ Some (LowerCount i x) = e in absurd cc
count_from (LostNumber j) i x e = let bad : Some (FreeNumber j) ≡ Some (LowerCount i x) = e in absurd cc
count_from _ i x e = let bad : None ≡ Some (LowerCount i x) = e in absurd cc

one_finding : (geo : Geometry) (view : View) (r : Repair) (f g : Finding) → IsFinding geo view f → IsFinding geo view g → repair_of f ≡ Some r → repair_of g ≡ Some r → f ≡ g
one_finding geo view (DropInode i) f g p q e h = drop_from f i e ∙ sym (drop_from g i h)
one_finding geo view (FreeBlock a) f g p q e h = block_from f a e ∙ sym (block_from g a h)
one_finding geo view (FreeNumber i) f g p q e h = number_from f i e ∙ sym (number_from g i h)
one_finding geo view (LowerCount i x) f g p q e h =
    let a = count_from f i x e in
    let b = count_from g i x h in
    let one : IsFinding geo view (CountHigh i a.0 a.1) = subst (λ k. IsFinding geo view k) a.2 p in
    let two : IsFinding geo view (CountHigh i b.0 b.1) = subst (λ k. IsFinding geo view k) b.2 q in
    a.2 ∙ ap₂ (λ l n. CountHigh i l n) (one.1 ∙ sym two.1) (entries_once geo view i a.1 b.1 one.2 two.2) ∙ sym b.2

all_soft : (fs : List Finding) → ((f : Finding) → Contains fs f → IsTrue (is_soft f)) → list_all is_soft fs ≡ true
all_soft [] h = refl
all_soft (f ∷ fs) h = and_from (is_soft f) (list_all is_soft fs) (h f (Contains-here f fs)) (all_soft fs (λ g c. h g (Contains-there f fs g c)))

-- ---- the plan

module _ (geo : Geometry) (old : State) (b : Balance geo old) (image : View) (stands : latest old ≡ Some image) (none : old.plan ≡ None) (fs : List Finding) (found : AreFindings geo image fs) where
  abbrev plan : Plan
  plan = record { repairs = repairs_of fs; done = λ k. false }

  image_right : ObeysRules geo image × HasWholeBlocks geo image
  image_right = let s = latest_number old.snapshots.standing old.snapshots.freezes image stands in b.snapshot s.0 image s.2

  soft : list_all is_soft fs ≡ true
  soft = all_soft fs (λ f c. soft_from_rules geo image image_right.0 f ((found.exactly f).0 c))

  listed : repairs_of fs ≡ filter_map repair_of fs
  listed = repairs_where_soft fs soft

  owed : (r : Repair) → Mends geo image r → Owes geo old r
  owed r m = subst (λ x. OwesBy geo old x (latest old) r) (sym none) (subst (λ y. OwesBy geo old None y r) (sym stands) m)

  mends : (r : Repair) → Owes geo old r → Mends geo image r
  mends r o = subst (λ y. OwesBy geo old None y r) stands (subst (λ x. OwesBy geo old x (latest old) r) none o)

  finding_at : (k : ℕ) (r : Repair) → slice_get (repairs_of fs) k ≡ Some r → (f : Finding) × (slice_get fs k ≡ Some f) × (repair_of f ≡ Some r)
  finding_at k r e = finding_of fs soft k r (sym (ap (λ rs. slice_get rs k) listed) ∙ e)

  is_finding : (k : ℕ) (f : Finding) → slice_get fs k ≡ Some f → IsFinding geo image f
  is_finding k f e = (found.exactly f).0 (contains_at fs k f e)

  pub before : (r : Repair) → IsUndone plan r → Owes geo old r
  before r u = let f = finding_at u.0 r u.1 in owed r (f.0, is_finding u.0 f.0 f.1, f.2)

  still : (r : Repair) → Owes geo old r → IsUndone plan r
  still r o =
      let m = mends r o in
      let c = (found.exactly m.0).1 m.1 in
      (c.0, ap (λ rs. slice_get rs c.0) listed ∙ repair_at fs soft c.0 m.0 (found_at fs c.0 m.0 c.1 c.2) r m.2, refl)

  once : StandOnce (Some plan)
  once j k r p q f g =
      let one = finding_at j r p in
      let two = finding_at k r q in
      let same = one_finding geo image r one.0 two.0 (is_finding j one.0 one.1) (is_finding k two.0 two.1) one.2 two.2 in
      at_once fs found.in_order j k one.0 one.1 (subst (λ x. slice_get fs k ≡ Some x) (sym same) two.1)

  pub installed : Balance geo (record old { plan = Some (record { repairs = repairs_of fs; done = λ k. false }) })
  installed = balance_by geo (Owes geo old) (record old { plan = Some plan }) (replan geo (Owes geo old) no_slack old (Some plan) (ledger geo old b)) before still b.one_count b.one_kind once b.snapshot

module _ (geo : Geometry) (old new : State) (b : Balance geo old) (check : Check) where
  no_plan : (o : Option Plan) → is_some o ≡ false → o ≡ None
  no_plan None f = refl
  no_plan (Some p) f = absurd (both_ways true f refl)

  pub install_keeps : refusal_of geo old (Install check) ≡ None → Installs geo old new → Balance geo new
  unfolding causes
  install_keeps none s =
      let q = quiet (causes geo old (Install check)) none in
      subst (λ t. Balance geo t) (sym s.whole)
      (installed geo old b s.image s.stands (no_plan old.plan (when_none (is_some old.plan) PlanStands q.1.0)) s.findings s.found)

  pub install_debts : refusal_of geo old (Install check) ≡ None → Installs geo old new → MakesNoDebt geo old new
  unfolding causes
  install_debts none s r o =
      let q = quiet (causes geo old (Install check)) none in
      already (Owes geo old) r
      (before geo old b s.image s.stands (no_plan old.plan (when_none (is_some old.plan) PlanStands q.1.0)) s.findings s.found r (subst (λ t. Owes geo t r) s.whole o))
