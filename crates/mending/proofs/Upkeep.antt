-- Runs of freezes, checks, repairs, releases and syncs: they open and close no handle, and repairs leave the snapshots.
use Rattle.std.proofs.Common.{◌≡◌, ◌<◌, ◌+◌, ◌-◌, ℕ, zero, suc, Bool, true, false, ◌&&◌, not, eqb, List, [], ◌∷◌, ◌++◌, length, inl, inr, refl, sym, ap, ◌∙◌, subst, arith, Ok, Err}
use Rattle.std.specs.List.{list_all}
use Rattle.std.proofs.lemmas.Bool.{and_from, and_parts, cases_Bool, cases_eq, cond-true, cond-false}
use Rattle.std.proofs.lemmas.List.{length-append}
use Rattle.std.proofs.lemmas.List.Folds.{list_all-append}
use Rattle.findings.specs.declared.repair.Repair.{Repair}
use Rattle.findings.specs.declared.repair.Repair.TheVariants.{DropInode, LowerCount, FreeBlock, FreeNumber}
use Rattle.model.specs.Cells.{SetInode, SetNumber, updated, updated_all}
use Rattle.model.specs.Layout.{Geometry}
use Rattle.model.specs.View.{free_inode}
use Rattle.machine.specs.Command.{Command, Freeze, Release, Install, RepairAt, Sync, Answer, Done, Reply}
use Rattle.machine.specs.Effects.{lets_go, swept, with_links}
use Rattle.machine.specs.Repairs.{repaired}
use Rattle.machine.specs.Runs.{IsTaken}
use Rattle.machine.specs.State.{State, is_open}
use Rattle.machine.specs.Step.{Effect, Run, Step}
use Rattle.mending.specs.Repairs.{all_done, repairs_below}

-- ---- what a repair leaves

-- the same handles, and the same snapshots
abbrev Leaves : State → State → Type 0
Leaves old new = (new.opened ≡ old.opened) × (new.snapshots ≡ old.snapshots)

swept_leaves : (geo : Geometry) (s : State) (i : ℕ) → Leaves s (swept geo s i)
swept_leaves geo s i =
    let test : Bool = eqb (s.view.inode i).links 0 && not (is_open s i) in
    let gone : State = lets_go geo s i (updated_all s.view (SetInode i free_inode ∷ SetNumber i false ∷ [])) in
    elim (cases_Bool test) [
      | inl t ↦ (let e = cond-true test gone s t in (ap (λ (x : State). x.opened) e, ap (λ (x : State). x.snapshots) e))
      | inr f ↦ (let e = cond-false test gone s f in (ap (λ (x : State). x.opened) e, ap (λ (x : State). x.snapshots) e))
    ]

repaired_leaves : (geo : Geometry) (s : State) (r : Repair) → Leaves s (repaired geo s r)
repaired_leaves geo s (DropInode i) = swept_leaves geo (record s { view = updated s.view (SetInode i (with_links (s.view.inode i) 0)) }) i
repaired_leaves geo s (LowerCount i x) = swept_leaves geo (record s { view = updated s.view (SetInode i (with_links (s.view.inode i) ((s.view.inode i).links - x))) }) i
repaired_leaves geo s (FreeBlock a) = (refl, refl)
repaired_leaves geo s (FreeNumber i) = (refl, refl)

-- ---- handles

abbrev pub is_upkeep : Command → Bool
is_upkeep Freeze = true
is_upkeep (Release s) = true
is_upkeep (Install check) = true
is_upkeep (RepairAt k) = true
is_upkeep Sync = true
is_upkeep _ = false

effect_opened : (geo : Geometry) (old new : State) (command : Command) (answer : Answer) → is_upkeep command ≡ true → Effect geo old command answer new → new.opened ≡ old.opened
effect_opened geo old new Freeze answer t e = ap (λ (s : State). s.opened) e.1
effect_opened geo old new (Release s) Done t e = ap (λ (s : State). s.opened) e
effect_opened geo old new (Install check) Done t e = ap (λ (s : State). s.opened) e.whole
effect_opened geo old new (RepairAt k) Done t e = ap (λ (s : State). s.opened) e.whole ∙ (repaired_leaves geo old e.repair).0
effect_opened geo old new Sync Done t e = ap (λ (s : State). s.opened) e
effect_opened geo old new (Release s) _ t e = absurd e
effect_opened geo old new (Install check) _ t e = absurd e
effect_opened geo old new (RepairAt k) _ t e = absurd e
effect_opened geo old new Sync _ t e = absurd e
effect_opened geo old new _ _ t e = cc

step_opened : (geo : Geometry) (old new : State) (command : Command) (reply : Reply) → is_upkeep command ≡ true → Step geo old command reply new → new.opened ≡ old.opened
step_opened geo old new command (Ok answer) t s = effect_opened geo old new command answer t s.1
step_opened geo old new command (Err r) t s = ap (λ (x : State). x.opened) s.1

pub run_opened : (geo : Geometry) (old new : State) (commands : List Command) (replies : List Reply) → list_all is_upkeep commands ≡ true → Run geo old commands replies new → new.opened ≡ old.opened
run_opened geo old new [] [] t run = ap (λ (x : State). x.opened) run
run_opened geo old new (c ∷ cs) (r ∷ rs) t run =
    let parts = and_parts (is_upkeep c) (list_all is_upkeep cs) t in
    run_opened geo run.0 new cs rs parts.1 run.2 ∙ step_opened geo old run.0 c r parts.0 run.1
run_opened geo old new [] (r ∷ rs) t run = absurd run
run_opened geo old new (c ∷ cs) [] t run = absurd run

-- ---- the repairs of a plan

-- a test that repairs pass passes each of those below n
pub all_repairs : (p : Command → Bool) → ((k : ℕ) → p (RepairAt k) ≡ true) → (n : ℕ) → list_all p (repairs_below n) ≡ true
all_repairs p each zero = refl
all_repairs p each (suc n) = list_all-append p (repairs_below n) (RepairAt n ∷ []) ∙ and_from (list_all p (repairs_below n)) (p (RepairAt n) && true) (all_repairs p each n) (and_from (p (RepairAt n)) true (each n) refl)

pub as_many : (n : ℕ) → length (all_done n) ≡ length (repairs_below n)
as_many zero = refl
as_many (suc n) =
    length-append (all_done n) (Ok Done ∷ []) ∙ ap (λ m. m + 1) (as_many n) ∙ sym (length-append (repairs_below n) (RepairAt n ∷ []))

taken_first : (command : Command) (cs ds : List Command) (rs ss : List Reply) → IsTaken command cs rs → IsTaken command (cs ++ ds) (rs ++ ss)
taken_first command (c ∷ cs) ds (Ok a ∷ rs) ss (inl is) = inl is
taken_first command (c ∷ cs) ds (Ok a ∷ rs) ss (inr later) = inr (taken_first command cs ds rs ss later)
taken_first command (c ∷ cs) ds (Err r ∷ rs) ss later = taken_first command cs ds rs ss later
taken_first command [] ds rs ss t = absurd t
taken_first command (c ∷ cs) ds [] ss t = absurd t

taken_then : (command : Command) (cs ds : List Command) (rs ss : List Reply) → length rs ≡ length cs → IsTaken command ds ss → IsTaken command (cs ++ ds) (rs ++ ss)
taken_then command [] ds [] ss e t = t
taken_then command (c ∷ cs) ds (Ok a ∷ rs) ss e t = inr (taken_then command cs ds rs ss (omega (arith, e)) t)
taken_then command (c ∷ cs) ds (Err r ∷ rs) ss e t = taken_then command cs ds rs ss (omega (arith, e)) t
taken_then command [] ds (r ∷ rs) ss e t = absurd (omega (arith, e))
taken_then command (c ∷ cs) ds [] ss e t = absurd (omega (arith, e))

repair_taken : (n k : ℕ) → k < n → IsTaken (RepairAt k) (repairs_below n) (all_done n)
repair_taken zero k low = absurd (omega (arith, low))
repair_taken (suc n) k low = elim (cases_eq k n) [
  | inl same ↦ taken_then (RepairAt k) (repairs_below n) (RepairAt n ∷ []) (all_done n) (Ok Done ∷ []) (as_many n) (inl (ap RepairAt (sym same)))
  | inr other ↦ taken_first (RepairAt k) (repairs_below n) (RepairAt n ∷ []) (all_done n) (Ok Done ∷ []) (repair_taken n k (omega arith))
]

-- and whatever follows them
pub each_taken : (n : ℕ) (more : List Command) (others : List Reply) (k : ℕ) → k < n → IsTaken (RepairAt k) (repairs_below n ++ more) (all_done n ++ others)
each_taken n more others k low = taken_first (RepairAt k) (repairs_below n) more (all_done n) others (repair_taken n k low)

abbrev pub is_no_freeze : Command → Bool
is_no_freeze Freeze = false
is_no_freeze _ = true

pub none_taken : (commands : List Command) (replies : List Reply) → list_all is_no_freeze commands ≡ true → IsTaken Freeze commands replies → ⊥
none_taken (c ∷ cs) (Ok a ∷ rs) t (inl is) =
    let first = (and_parts (is_no_freeze c) (list_all is_no_freeze cs) t).0 in
    let bad : false ≡ true = ap is_no_freeze (sym is) ∙ first in cc
none_taken (c ∷ cs) (Ok a ∷ rs) t (inr later) = none_taken cs rs (and_parts (is_no_freeze c) (list_all is_no_freeze cs) t).1 later
none_taken (c ∷ cs) (Err r ∷ rs) t later = none_taken cs rs (and_parts (is_no_freeze c) (list_all is_no_freeze cs) t).1 later
none_taken [] rs t h = absurd h
none_taken (c ∷ cs) [] t h = absurd h

-- ---- the last step of a run

pub last_step : (geo : Geometry) (old new : State) (cs : List Command) (c : Command) (rs : List Reply) (r : Reply) → length rs ≡ length cs → Run geo old (cs ++ c ∷ []) (rs ++ r ∷ []) new → (mid : State) × Run geo old cs rs mid × Step geo mid c r new
last_step geo old new [] c [] r e run = (old, refl, subst (λ s. Step geo old c r s) (sym run.2) run.1)
last_step geo old new (d ∷ cs) c (s ∷ rs) r e run = let rest = last_step geo run.0 new cs c rs r (omega (arith, e)) run.2 in (rest.0, (run.0, run.1, rest.1), rest.2)
last_step geo old new [] c (s ∷ rs) r e run = absurd (omega (arith, e))
last_step geo old new (d ∷ cs) c [] r e run = absurd (omega (arith, e))

-- ---- repairs leave the snapshots

repair_snapshots : (geo : Geometry) (old new : State) (k : ℕ) → Step geo old (RepairAt k) (Ok Done) new → new.snapshots ≡ old.snapshots
repair_snapshots geo old new k s = ap (λ (x : State). x.snapshots) s.1.whole ∙ (repaired_leaves geo old s.1.repair).1

pub repairs_snapshots : (geo : Geometry) (old new : State) (n : ℕ) → Run geo old (repairs_below n) (all_done n) new → new.snapshots ≡ old.snapshots
repairs_snapshots geo old new zero run = ap (λ (s : State). s.snapshots) run
repairs_snapshots geo old new (suc n) run =
    let last = last_step geo old new (repairs_below n) (RepairAt n) (all_done n) (Ok Done) (as_many n) run in
    repair_snapshots geo last.0 new n last.2 ∙ repairs_snapshots geo old last.0 n last.1
