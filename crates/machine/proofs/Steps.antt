-- What opens, closes, freezes or repairs keeps the balance, and so does what changes nothing.
use Rattle.std.proofs.Common.{◌≡◌, ◌≢◌, ◌↔◌, ℕ, Bool, true, false, not, ◌&&◌, eqb, List, [], ◌⊎◌, inl, inr, refl, sym, ap, ◌∙◌, subst, IsTrue, IsFalse, Option, Some, None, Ok, eqb-true, eq-eqb}
use Rattle.std.specs.Prelude.{slice_get, is_none, unwrap_or}
use Rattle.std.specs.Option.{option_and_then}
use Rattle.std.proofs.lemmas.Bool.{cases_eq, cases_Bool, and_parts, and_from, both_ways, cond-true, cond-false}
use Rattle.model.specs.Layout.{Geometry}
use Rattle.model.specs.View.{View}
use Rattle.model.specs.Uses.{is_directory_at}
use Rattle.model.specs.Cells.{put_at}
use Rattle.findings.specs.declared.repair.Repair.{Repair}
use Rattle.findings.specs.declared.repair.Repair.TheVariants.{DropInode, LowerCount, FreeBlock, FreeNumber}
use Rattle.model.specs.Rules.{ObeysRules}
use Rattle.model.proofs.Places.{put_here, put_there}
use Rattle.layout.specs.declared.refusal.Refusal.TheVariants.{AlreadyDone, IsDirectory, BadName}
use Rattle.machine.specs.Below.{when}
use Rattle.machine.specs.State.{State, Plan, open_at, is_open, IsOpen, is_kept, snapshot_at, latest}
use Rattle.machine.specs.Command.{Open, Close, RepairAt}
use Rattle.machine.specs.Paths.{parts, parts_of, target, number_at, is_part}
use Rattle.machine.specs.Causes.{causes, refusal_of, file_of, bad_name}
use Rattle.machine.specs.Effects.{Opens, closed}
use Rattle.machine.specs.Snapshot.{settled, frozen}
use Rattle.machine.specs.Repairs.{CarriesOut, repaired}
use Rattle.machine.specs.Whole.{HasWholeBlocks}
use Rattle.machine.specs.Balance.{Balance, Owes, OwesBy, IsUndone, Mends}
use Rattle.machine.specs.Debts.{MakesNoDebt}
use Rattle.machine.proofs.Bools.{not_true, or_right}
use Rattle.machine.proofs.Base.{base, settled_obeys}
use Rattle.machine.proofs.Tests.{open_tested}
use Rattle.machine.proofs.OpenHandles.{opened_file}
use Rattle.machine.proofs.Walks.{quiet, when_none, no_error, parts_good, target_reachable}
use Rattle.machine.proofs.Handles.{opened_kept, closed_kept}
use Rattle.machine.proofs.Snapshots.{at_here, at_other}
use Rattle.machine.proofs.Ledger.{Kept, ledger}
use Rattle.machine.proofs.Debts.{already, found_before}
use Rattle.machine.proofs.Closing.{closing}
use Rattle.machine.proofs.Repairing.{inode_dropped, count_lowered}
use Rattle.machine.proofs.Unmarking.{number_freed, block_freed}
use Rattle.std.specs.List.{list_all}

module _ (geo : Geometry) (old new : State) (b : Balance geo old) where
  pub same : new ≡ old → Balance geo new
  same e = subst (λ s. Balance geo s) (sym e) b

  -- ---- open

  good_parts : (p : List ℕ) → bad_name p ≡ None → IsTrue (list_all is_part (parts p))
  good_parts p e = go (parts_of p) refl (when_none (is_none (parts_of p)) BadName e)
    where
      go : (o : Option (List (List ℕ))) → parts_of p ≡ o → is_none o ≡ false → IsTrue (list_all is_part (unwrap_or (parts_of p) []))
      go None was f = absurd (both_ways true f refl)
      go (Some ps) was f = subst (λ o. IsTrue (list_all is_part (unwrap_or o []))) (sym was) (parts_good p ps was)

  pub open_keeps : (p : List ℕ) (h : ℕ) → refusal_of geo old (Open p) ≡ None → Opens geo old p h new → Kept geo old new
  unfolding causes
  open_keeps p h none o =
      let q = quiet (causes geo old (Open p)) none in
      let is : target geo old.view (parts p) ≡ Ok (number_at geo old.view p) = no_error (target geo old.view (parts p)) 0 q.1.0 in
      let r = target_reachable geo old.view b.rules (parts p) (number_at geo old.view p) (good_parts p q.0) is in
      subst (λ s. Kept geo old s) (sym o.whole)
      (opened_kept geo old b h (number_at geo old.view p) o.handle o.free r (when_none (is_directory_at geo old.view (number_at geo old.view p)) IsDirectory q.1.1.0))

  -- ---- close

  open_was : (h : ℕ) → refusal_of geo old (Close h) ≡ None → open_at old h ≡ Some (file_of old h)
  unfolding causes
  open_was h none = opened_file old h (quiet (causes geo old (Close h)) none).0

  pub close_keeps : (h : ℕ) → refusal_of geo old (Close h) ≡ None → new ≡ closed geo old h → Kept geo old new
  close_keeps h none e = elim (cases_Bool test) [
    | inl t ↦
        let parts = and_parts (eqb (old.view.inode i).links 0) (not (is_open shut i)) t in
        subst (λ s. Kept geo old s) (sym (e ∙ cond-true test _ shut t)) (closing geo old b h i was (eqb-true (old.view.inode i).links 0 parts.0) (not_true (is_open shut i) parts.1))
    | inr f ↦ subst (λ s. Kept geo old s) (sym (e ∙ cond-false test _ shut f)) (closed_kept geo old b h i was (stays f))
  ]
    where
      i : ℕ
      i = file_of old h

      shut : State
      shut = record old { opened = put_at old.opened h None }

      test : Bool
      test = eqb (old.view.inode i).links 0 && not (is_open shut i)

      was : open_at old h ≡ Some i
      was = open_was h none

      stays : test ≡ false → ((old.view.inode i).links ≢ 0) ⊎ IsOpen shut i
      stays f = elim (cases_Bool (is_open shut i)) [
        | inl o ↦ inr (open_tested shut i o)
        | inr closed' ↦ inl (λ z. both_ways test f (and_from (eqb (old.view.inode i).links 0) (not (is_open shut i)) (eq-eqb (old.view.inode i).links 0 z) (ap not closed')))
      ]

  -- ---- freeze

  latest_frozen : latest (frozen geo old) ≡ Some (settled geo old)
  latest_frozen = at_here old.snapshots.freezes (settled geo old) old.snapshots.standing

  -- without a plan, what is owed is what a check of the image would find
  frozen_owes : (r : Repair) → Owes geo (frozen geo old) r ↔ Mends geo (settled geo old) r
  frozen_owes r = (subst (λ y. OwesBy geo (frozen geo old) None y r) latest_frozen, subst (λ y. OwesBy geo (frozen geo old) None y r) (sym latest_frozen))

  settled_right : ObeysRules geo (settled geo old) × HasWholeBlocks geo (settled geo old)
  settled_right = (settled_obeys geo old b.rules b.open_file (λ a h. (b.held_block a h).0), b.whole)

  images_right : (s : ℕ) (image : View) → snapshot_at (frozen geo old) s ≡ Some image → ObeysRules geo image × HasWholeBlocks geo image
  images_right s image is = elim (cases_eq old.snapshots.freezes s) [
    | inl here ↦ subst (λ v. ObeysRules geo v × HasWholeBlocks geo v) (some_view (settled geo old) image (sym latest_frozen ∙ ap (snapshot_at (frozen geo old)) here ∙ is)) settled_right
    | inr there ↦ b.snapshot s image (sym (at_other old.snapshots.freezes s (settled geo old) old.snapshots.standing there) ∙ is)
  ]
    where
      some_view : (v w : View) → Some v ≡ Some w → v ≡ w
      some_view v w e = cc

  pub freeze_keeps : new ≡ frozen geo old → Balance geo new
  freeze_keeps e =
      subst (λ s. Balance geo s) (sym e)
      (base geo (frozen geo old) b.rules b.open_file frozen_owes b.held_block (λ a h. or_right ((settled geo old).block_marked a) (is_kept old a) (b.held_for a h)) tt b.whole b.records images_right)

  pub freeze_debts : new ≡ frozen geo old → MakesNoDebt geo old new
  freeze_debts e r o = found_before geo (Owes geo old) old (ledger geo old b) r ((frozen_owes r).0 (subst (λ t. Owes geo t r) e o))

  -- ---- the repairs

  pub repair_keeps : (k : ℕ) → refusal_of geo old (RepairAt k) ≡ None → CarriesOut geo old k new → Balance geo new
  unfolding causes
  repair_keeps k none c = subst (λ s. Balance geo s) (sym c.whole) (by c.repair c.stands)
    where
      in_balance : Balance geo (record old { plan = Some c.plan })
      in_balance = subst (λ q. Balance geo (record old { plan = q })) c.planned b

      undone : IsFalse (c.plan.done k)
      undone = when_none (c.plan.done k) AlreadyDone (sym (ap (option_and_then (λ (plan : Plan). when (plan.done k) AlreadyDone)) c.planned) ∙ (quiet (causes geo old (RepairAt k)) none).1.1.0)

      by : (r : Repair) → slice_get c.plan.repairs k ≡ Some r → Balance geo (record (repaired geo old r) { plan = Some (record c.plan { done = put_at c.plan.done k true }) })
      by (DropInode i) e = inode_dropped geo old c.plan in_balance k undone i e
      by (LowerCount i x) e = count_lowered geo old c.plan in_balance k undone i x e
      by (FreeBlock a) e = block_freed geo old c.plan in_balance k undone a e
      by (FreeNumber i) e = number_freed geo old c.plan in_balance k undone i e

  pub repair_debts : (k : ℕ) → refusal_of geo old (RepairAt k) ≡ None → CarriesOut geo old k new → MakesNoDebt geo old new
  repair_debts k none c r o = already (Owes geo old) r (subst (λ q. OwesBy geo old q (latest old) r) (sym c.planned) (was (subst (λ t. Owes geo t r) c.whole o)))
    where
      was : IsUndone (record c.plan { done = put_at c.plan.done k true }) r → IsUndone c.plan r
      was u = (
        u.0,
        u.1,
        elim (cases_eq u.0 k) [
          | inl e ↦ absurd (both_ways (put_at c.plan.done k true u.0) u.2 (ap (put_at c.plan.done k true) e ∙ put_here c.plan.done k true))
          | inr d ↦ sym (put_there c.plan.done k u.0 true d) ∙ u.2
        ],
      )
