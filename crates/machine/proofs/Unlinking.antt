-- The command that takes a file's name away keeps the balance, and the files but one that goes.
use Rattle.std.proofs.Common.{◌≡◌, ◌≤◌, ◌+◌, ◌-◌, ℕ, eqb, List, refl, sym, subst, arith, IsFalse, None, eq-eqb, ne_eqb}
use Rattle.std.proofs.lemmas.Bool.{cond-true, cond-false}
use Rattle.std.specs.Prelude.{replicate}
use Rattle.model.specs.Layout.{Geometry}
use Rattle.model.specs.Uses.{is_directory_at}
use Rattle.model.specs.Slots.{Good}
use Rattle.model.specs.Reach.{IsReachable}
use Rattle.model.proofs.Finite.{entries_exist}
use Rattle.layout.specs.declared.refusal.Refusal.TheVariants.{IsDirectory}
use Rattle.machine.specs.State.{State}
use Rattle.machine.specs.Command.{Unlink}
use Rattle.machine.specs.Paths.{holder, name_in, slot_at, number_at}
use Rattle.machine.specs.Causes.{causes, refusal_of}
use Rattle.machine.specs.Effects.{emptied, unlinked}
use Rattle.machine.specs.Balance.{Balance, Owes}
use Rattle.machine.specs.Files.{IsFile}
use Rattle.machine.proofs.Decisions.{reachable_sound}
use Rattle.machine.proofs.Clears.{named_reachable}
use Rattle.machine.proofs.Counting.{reachable_counted}
use Rattle.machine.proofs.Walks.{quiet, when_none}
use Rattle.machine.proofs.Naming.{once}
use Rattle.machine.proofs.Renaming.{IsPlace, place_at}
use Rattle.machine.proofs.Ledger.{Ledger, ledger, no_slack, Kept, kept_by}
use Rattle.machine.proofs.Emptying.{emptied_ledger}
use Rattle.machine.proofs.Relinking.{relinked_ledger}
use Rattle.machine.proofs.Relinked.{relinked_plan, relinked_snapshots}
use Rattle.machine.proofs.FileStays.{entry_file, relinked_file, Stays, then_stays, stays_or_gone}

pub once_here : (i : ℕ) (name : List ℕ) → once (Good i name) i ≡ 1
once_here i name = cond-true (eqb i i) 1 0 (eq-eqb i i refl)

pub once_there : (i j : ℕ) (name : List ℕ) → (j ≡ i → ⊥) → once (Good i name) j ≡ 0
once_there i j name differs = cond-false (eqb i j) 1 0 (ne_eqb i j (λ e. differs (sym e)))

module _ (geo : Geometry) (old new : State) (b : Balance geo old) (p : List ℕ) where
  abbrev d : ℕ
  d = holder geo old.view p

  abbrev s : ℕ
  s = slot_at geo old.view p

  abbrev i : ℕ
  i = number_at geo old.view p

  module _ (at : IsPlace geo old.view p) (file : IsFalse (is_directory_at geo old.view i)) where
    reached : IsReachable geo old.view i
    reached = named_reachable geo old.view b.rules d s i at.entry.reachable at.entry.names

    linked : 1 ≤ (old.view.inode i).links
    linked = let e = entries_exist geo old.view i in omega (arith, b.rules.rule8 i e.0 reached e.1, reachable_counted geo old.view b.rules i e.0 reached e.1)

    after : Ledger geo (Owes geo old) no_slack (unlinked geo old p)
    after = relinked_ledger geo (Owes geo old) (λ j. no_slack j + once (Good i (name_in p)) j) no_slack (emptied geo old d s)
        (emptied_ledger geo (Owes geo old) no_slack old (ledger geo old b) i d s (name_in p) at.good at.entry.reachable at.entry.after_dots file)
        i ((old.view.inode i).links - 1) (reachable_sound geo old.view i reached)
        (omega (arith, once_here i (name_in p)))
        (omega (arith, once_here i (name_in p), linked))
        (λ j differs. omega (arith, once_there i j (name_in p) differs))
        refl

    -- a file is as it was, or is freed
    unlinked_file : (j : ℕ) → IsFile geo old.view j → Stays geo old.view (unlinked geo old p).view j
    unlinked_file j is = then_stays geo old.view (emptied geo old d s).view (unlinked geo old p).view j
        (entry_file geo old.view b.rules.rule3 d s (replicate 64 0) (Good i (name_in p)) (λ q. cc) at.good j is.1)
        (stays_or_gone geo (emptied geo old d s).view (unlinked geo old p).view i j (relinked_file geo (emptied geo old d s) i ((old.view.inode i).links - 1) j))

    unlinking : Kept geo old (unlinked geo old p)
    unlinking = kept_by geo old (unlinked geo old p) after
        (relinked_plan geo (emptied geo old d s) i ((old.view.inode i).links - 1)) (relinked_snapshots geo (emptied geo old d s) i ((old.view.inode i).links - 1))

  -- what it may rely on
  allows : {A : Type 0} → refusal_of geo old (Unlink p) ≡ None → (IsPlace geo old.view p → IsFalse (is_directory_at geo old.view i) → A) → A
  unfolding causes
  allows none then = let c = quiet (causes geo old (Unlink p)) none in then (place_at geo old.view p c.0 c.1.0 c.1.1.0) (when_none (is_directory_at geo old.view i) IsDirectory c.1.1.1.0)

  pub unlink_keeps : refusal_of geo old (Unlink p) ≡ None → new ≡ unlinked geo old p → Kept geo old new
  unlink_keeps none e = subst (λ t. Kept geo old t) (sym e) (allows none unlinking)

  pub unlink_files : refusal_of geo old (Unlink p) ≡ None → new ≡ unlinked geo old p → (j : ℕ) → IsFile geo old.view j → Stays geo old.view new.view j
  unlink_files none e j is = subst (λ (t : State). Stays geo old.view t.view j) (sym e) (allows none (λ at file. unlinked_file at file j is))
