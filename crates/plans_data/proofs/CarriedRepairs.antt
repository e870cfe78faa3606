-- Each repair of the plan that no cause refuses is carried out by its updates, and so is the end of a snapshot.
use Rattle.std.proofs.Common.{◌≡◌, ℕ, ◌<◌, Bool, true, List, [], refl, sym, ap, ◌∙◌, subst, IsTrue, Some, Ok, slice_get}
use Rattle.std.specs.Option.{option_and_then}
use Rattle.model.specs.Layout.{Geometry}
use Rattle.model.specs.View.{View, free_inode}
use Rattle.model.specs.Cells.{put_at}
use Rattle.findings.specs.declared.repair.Repair.{Repair}
use Rattle.findings.specs.declared.repair.Repair.TheVariants.{DropInode, LowerCount, FreeBlock, FreeNumber}
use Rattle.layout.specs.declared.refusal.Refusal.TheVariants.{AlreadyDone}
use Rattle.machine.specs.Standing.{ended}
use Rattle.machine.specs.State.{State, Plan, latest}
use Rattle.machine.specs.Below.{when}
use Rattle.machine.specs.Command.{Done, RepairAt, Release}
use Rattle.machine.specs.Causes.{Accepts, causes}
use Rattle.machine.specs.Repairs.{repaired}
use Rattle.machine.specs.Snapshot.{released, held_still}
use Rattle.machine.specs.Step.{Step}
use Rattle.machine.specs.Balance.{Owes, OwesBy}
use Rattle.machine.proofs.AllSteps.{step_keeps}
use Rattle.machine.proofs.Walks.{quiet, when_none}
use Rattle.ordering.specs.Cuts.{Pending, users_view}
use Rattle.ordering.specs.Ghosts.{Ghost, at_rest}
use Rattle.ordering.specs.Histories.{Comes_to}
use Rattle.plans_data.specs.Now.{now, becomes}
use Rattle.plans_data.specs.Carried.{Stands, IsCarriedOut}
use Rattle.plans_data.specs.Freeing.{HeldAreUnclaimed}
use Rattle.plans_data.specs.Issues.{Issues}
use Rattle.plans_data.specs.Lists.{given_up_with, let_go_below}
use Rattle.plans_data.specs.Plans.{named_by}
use Rattle.plans_data.specs.Relink.{MayRepair, repairing, held_after, inode_of, open_of}
use Rattle.plans_data.specs.Release.{MayRelease, releasing}
use Rattle.plans_data.proofs.Chains.{issues_agree}
use Rattle.plans_data.proofs.Plans.{plan_drop, plan_lower, plan_block, plan_number, plan_release}
use Rattle.plans_data.proofs.Releasing.{release_releases, release_issues, release_comes, release_agrees}
use Rattle.plans_data.proofs.Repairing.{repair_repairs, repair_issues}
use Rattle.plans_data.proofs.SafeFiles.{safe_modes}
use Rattle.plans_data.proofs.Stands.{carried}

module _ (geo : Geometry) (disk : View) (q : List Pending) (old : State) (safe : ℕ → Bool) (stands : Stands geo disk q old safe) (k : ℕ) (plan : Plan) (r : Repair)
    (accepted : Accepts geo old (RepairAt k)) (planned : old.plan ≡ Some plan) (lists : slice_get plan.repairs k ≡ Some r) where
  abbrev with_view : View → State
  with_view v = record old { view = v }

  -- the plan says that the repair is done
  abbrev ticked : State → State
  ticked s = record s { plan = Some (record plan { done = put_at plan.done k true }) }

  abbrev gone : View → List ℕ
  gone v = given_up_with geo (with_view v) (named_by r) free_inode

  abbrev repairs : View → List Pending
  repairs v = repairing r (inode_of v r) (open_of old r) (gone v) q

  abbrev held_then : View → ℕ → Bool
  held_then v = held_after geo (with_view v) r

  -- a repair that no cause refuses is owed
  pub owed : Owes geo old r
  unfolding causes
  owed =
      let undone = when_none (plan.done k) AlreadyDone (sym (ap (option_and_then (λ (p : Plan). when (p.done k) AlreadyDone)) planned) ∙ (quiet (causes geo old (RepairAt k)) accepted.0).1.1.0) in
      subst (λ p. OwesBy geo old p (latest old) r) (sym planned) (k, lists, undone)

  may_repair : (t : Repair) → Owes geo old t → MayRepair geo old t (given_up_with geo old (named_by t) free_inode)
  may_repair (DropInode n) o = plan_drop geo stands.geometry old stands.balance n o
  may_repair (LowerCount n x) o = plan_lower geo stands.geometry old stands.balance n x o
  may_repair (FreeBlock a) o = plan_block geo stands.geometry old stands.balance a (given_up_with geo old a free_inode) o
  may_repair (FreeNumber n) o = plan_number geo stands.geometry old stands.balance n (given_up_with geo old n free_inode) o

  pub carries_repair : IsCarriedOut geo disk q old (RepairAt k) Done (repairs old.view) (ticked (becomes disk (repairs old.view) (held_then old.view) old)) safe safe
  carries_repair =
      let may = subst (λ v. MayRepair geo (with_view v) r (gone v)) (sym stands.same) (may_repair r owed) in
      carried geo disk q old safe stands (RepairAt k) Done (repairs old.view) (ticked (becomes disk (repairs old.view) (held_then old.view) old)) safe (
        accepted,
        record {
          plan = plan;
          planned = planned;
          repair = r;
          stands = lists;
          whole = ap ticked (subst (λ v. becomes disk (repairs v) (held_then v) old ≡ repaired geo (with_view v) r) stands.same
              (repair_repairs geo disk q old safe (gone (users_view disk q)) stands.agree r may));
        },
      ) refl
      (subst (λ v. Issues geo disk q (at_rest old.held safe) (repairs v) (at_rest (held_then v) safe)) stands.same
      (repair_issues geo disk q old safe (gone (users_view disk q)) stands.agree r may))

-- ---- the end of a snapshot

module _ (geo : Geometry) (disk : View) (old : State) (safe : ℕ → Bool) (stands : Stands geo disk [] old safe) (s : ℕ) (accepted : Accepts geo old (Release s)) (n : ℕ) (few : (a : ℕ) → IsTrue (old.held a) → a < n) where
  abbrev unmarked : List Pending
  unmarked = releasing (let_go_below old s n) []

  abbrev new : State
  new = becomes disk unmarked (held_still old s) (record old { snapshots = ended old.snapshots s })

  abbrev left : Ghost
  left = at_rest (held_still old s) safe

  may : MayRelease geo (now disk [] old) (held_still old s) (let_go_below old s n)
  may = let m = plan_release geo stands.geometry old stands.balance s n few in record { all = m.all; still = m.still; unclaimed = subst (λ v. HeldAreUnclaimed geo (record old { view = v })) (sym stands.same) m.unclaimed }

  pub release_steps_on : Step geo old (Release s) (Ok Done) new
  release_steps_on = (accepted, subst (λ v. new ≡ released (record old { view = v }) s) stands.same (release_releases geo disk old s (let_go_below old s n) may))

  pub release_leads : Comes_to geo disk [] (at_rest old.held safe) → Comes_to geo disk unmarked left
  release_leads = release_comes geo disk old safe (held_still old s) (let_go_below old s n) may

  pub release_stands : Stands geo disk unmarked new safe
  release_stands =
      let settled = release_agrees geo disk old safe (held_still old s) (let_go_below old s n) may stands.agree in
      let chain = release_issues geo disk old safe (held_still old s) (let_go_below old s n) may stands.agree in record {
        geometry = stands.geometry;
        same = refl;
        balance = step_keeps geo stands.geometry old new (Release s) (Ok Done) stands.balance release_steps_on;
        agree = issues_agree geo disk [] left unmarked left chain settled;
        files = λ f t. safe_modes geo disk [] left unmarked left chain settled f t ∙ ap (λ (v : View). (v.inode f).mode) stands.same ∙ stands.files f t;
      }
