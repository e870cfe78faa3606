-- The command that removes an empty directory keeps the balance, and the files.
use Rattle.std.proofs.Common.{◌≡◌, ◌≤◌, ◌+◌, ◌-◌, ℕ, false, not, ◌&&◌, eqb, leb, List, [], inl, inr, refl, sym, ap, ◌∙◌, subst, arith, IsTrue, None, eqb-true, le-leb}
use Rattle.std.proofs.lemmas.Bool.{cases_Bool, both_ways, and_from}
use Rattle.std.specs.Prelude.{replicate}
use Rattle.model.specs.Layout.{Geometry, is_number}
use Rattle.model.specs.View.{Inode}
use Rattle.model.specs.Uses.{is_sound, is_directory_at}
use Rattle.model.specs.Slots.{Good, slot, number_in, Names}
use Rattle.model.specs.Reach.{IsReachable, slot_count}
use Rattle.model.proofs.SlotLemmas.{names_stands, number_from_names, number_low, directory_number, reachable_directory}
use Rattle.layout.specs.declared.refusal.Refusal.TheVariants.{NotDirectory, NotEmpty}
use Rattle.machine.specs.State.{State}
use Rattle.machine.specs.Command.{Rmdir}
use Rattle.machine.specs.Paths.{holder, name_in, slot_at, number_at}
use Rattle.machine.specs.Causes.{causes, refusal_of, has_names}
use Rattle.machine.specs.Effects.{emptied, relinked, removed}
use Rattle.machine.specs.Balance.{Balance, Owes}
use Rattle.machine.specs.Files.{IsFile}
use Rattle.machine.proofs.Bools.{not_false}
use Rattle.machine.proofs.Decisions.{any_here, reachable_sound, directory_is_sound}
use Rattle.machine.proofs.Clears.{named_reachable}
use Rattle.machine.proofs.Walks.{quiet, when_none}
use Rattle.machine.proofs.Naming.{once}
use Rattle.machine.proofs.Renaming.{IsPlace, place_at}
use Rattle.machine.proofs.Ledger.{Ledger, ledger, no_slack, Kept, kept_by}
use Rattle.machine.proofs.GraftCount.{came_of}
use Rattle.machine.proofs.EmptyingDirectory.{holder_apart, has_links, pruned_ledger}
use Rattle.machine.proofs.Relinking.{relinked_ledger}
use Rattle.machine.proofs.Relinked.{relinked_plan, relinked_snapshots, relinked_other}
use Rattle.machine.proofs.SameFiles.{SameFile, then_file}
use Rattle.machine.proofs.FileStays.{apart_from, entry_file, relinked_file, other_stays}
use Rattle.machine.proofs.Unlinking.{once_here, once_there}

module _ (geo : Geometry) (old new : State) (b : Balance geo old) (p : List ℕ) where
  abbrev d : ℕ
  d = holder geo old.view p

  abbrev s : ℕ
  s = slot_at geo old.view p

  abbrev i : ℕ
  i = number_at geo old.view p

  -- a directory without names names nothing but its dots
  no_names : has_names geo old.view i ≡ false → (t j : ℕ) → 2 ≤ t → Names geo old.view i t j → ⊥
  no_names f t j two n =
      let at = names_stands geo old.view i t j n in
      let low = number_low geo j at.number in
      both_ways (has_names geo old.view i) f
      (any_here (slot_count geo) (λ s. leb 2 s && not (eqb (number_in (slot geo old.view i s)) 0)) t at.place.below
      (and_from (leb 2 t) (not (eqb (number_in (slot geo old.view i t)) 0)) (le-leb 2 t two) (ap not (some low (number_from_names geo old.view i t j n)))))
    where
      some : 2 ≤ j → number_in (slot geo old.view i t) ≡ j → eqb (number_in (slot geo old.view i t)) 0 ≡ false
      some low e = elim (cases_Bool (eqb (number_in (slot geo old.view i t)) 0)) [
        | inr f ↦ f
        | inl z ↦ absurd (omega (arith, eqb-true (number_in (slot geo old.view i t)) 0 z, e, low))
      ]

  module _ (at : IsPlace geo old.view p) (dir : IsTrue (is_directory_at geo old.view i)) (leaf : (t j : ℕ) → 2 ≤ t → Names geo old.view i t j → ⊥) where
    l : Ledger geo (Owes geo old) no_slack old
    l = ledger geo old b

    apart : d ≡ i → ⊥
    apart = holder_apart geo (Owes geo old) no_slack old l i d s (name_in p) at.good at.entry.reachable at.entry.after_dots dir leaf

    holder_dir : IsTrue (is_directory_at geo old.view d)
    holder_dir = reachable_directory geo old.view d at.entry.reachable

    enough : (j : ℕ) → IsTrue (is_directory_at geo old.view j) → IsReachable geo old.view j → came_of d i j ≤ (old.view.inode j).links
    enough j h r = has_links geo (Owes geo old) no_slack old l i d s (name_in p) at.good at.entry.reachable at.entry.after_dots dir leaf j (number_low geo j (directory_number geo old.view j h)) r

    reached : IsReachable geo old.view i
    reached = named_reachable geo old.view b.rules d s i at.entry.reachable at.entry.names

    own : once (Good d []) i ≡ 0
    own = once_there d i [] (λ e. apart (sym e))

    abbrev first : State
    first = relinked geo (emptied geo old d s) i ((old.view.inode i).links - 2)

    first_ledger : Ledger geo (Owes geo old) (once (Good d [])) first
    first_ledger = relinked_ledger geo (Owes geo old) (λ j. no_slack j + came_of d i j) (once (Good d [])) (emptied geo old d s)
        (pruned_ledger geo (Owes geo old) no_slack old l i d s (name_in p) at.good at.entry.reachable at.entry.after_dots dir leaf)
        i ((old.view.inode i).links - 2) (reachable_sound geo old.view i reached)
        (omega (arith, once_here i []))
        (omega (arith, once_here i [], own, enough i dir reached))
        (λ j differs. omega (arith, once_there i j [] differs))
        own

    record_there : first.view.inode d ≡ old.view.inode d
    record_there = relinked_other geo (emptied geo old d s) i ((old.view.inode i).links - 2) d apart

    links_there : (first.view.inode d).links ≡ (old.view.inode d).links
    links_there = ap (λ (r : Inode). r.links) record_there

    after : Ledger geo (Owes geo old) no_slack (removed geo old p)
    after = relinked_ledger geo (Owes geo old) (once (Good d [])) no_slack first first_ledger
        d ((old.view.inode d).links - 1) (ap (λ r. is_number geo d && is_sound geo r) record_there ∙ directory_is_sound geo old.view d holder_dir)
        (omega (arith, once_here d []))
        (omega (arith, once_here d [], links_there, enough d holder_dir (inl at.entry.reachable)))
        (λ j differs. omega (arith, once_there d j [] differs))
        refl

    -- a file is as it was
    removed_file : (j : ℕ) → IsFile geo old.view j → SameFile geo old.view (removed geo old p).view j
    removed_file j is = then_file geo old.view first.view (removed geo old p).view j
        (then_file geo old.view (emptied geo old d s).view first.view j
        (entry_file geo old.view b.rules.rule3 d s (replicate 64 0) (Good i (name_in p)) (λ q. cc) at.good j is.1)
        (other_stays geo (emptied geo old d s).view first.view i j (apart_from geo old.view j i is.1 dir) (relinked_file geo (emptied geo old d s) i ((old.view.inode i).links - 2) j)))
        (other_stays geo first.view (removed geo old p).view d j (apart_from geo old.view j d is.1 holder_dir) (relinked_file geo first d ((old.view.inode d).links - 1) j))

    removing : Kept geo old (removed geo old p)
    removing = kept_by geo old (removed geo old p) after
        (relinked_plan geo first d ((old.view.inode d).links - 1) ∙ relinked_plan geo (emptied geo old d s) i ((old.view.inode i).links - 2))
        (relinked_snapshots geo first d ((old.view.inode d).links - 1) ∙ relinked_snapshots geo (emptied geo old d s) i ((old.view.inode i).links - 2))

  -- what it may rely on
  allows : {A : Type 0} → refusal_of geo old (Rmdir p) ≡ None → (IsPlace geo old.view p → IsTrue (is_directory_at geo old.view i) → ((t j : ℕ) → 2 ≤ t → Names geo old.view i t j → ⊥) → A) → A
  unfolding causes
  allows none then =
      let c = quiet (causes geo old (Rmdir p)) none in
      then (place_at geo old.view p c.0 c.1.0 c.1.1.0) (not_false (is_directory_at geo old.view i) (when_none (not (is_directory_at geo old.view i)) NotDirectory c.1.1.1.0))
      (no_names (when_none (has_names geo old.view i) NotEmpty c.1.1.1.1.0))

  pub rmdir_keeps : refusal_of geo old (Rmdir p) ≡ None → new ≡ removed geo old p → Kept geo old new
  rmdir_keeps none e = subst (λ t. Kept geo old t) (sym e) (allows none removing)

  pub rmdir_files : refusal_of geo old (Rmdir p) ≡ None → new ≡ removed geo old p → (j : ℕ) → IsFile geo old.view j → SameFile geo old.view new.view j
  rmdir_files none e j is = subst (λ (t : State). SameFile geo old.view t.view j) (sym e) (allows none (λ at dir leaf. removed_file at dir leaf j is))
