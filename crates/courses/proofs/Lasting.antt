-- What is true of the bytes of each file's block, as users see it and as each closed cut shows it, stays so through a plan and through the end of a snapshot.
use Rattle.std.proofs.Common.{◌≡◌, ℕ, zero, suc, Bool, List, [], refl, sym, ap₂, ◌∙◌, subst, arith}
use Rattle.model.specs.Layout.{Geometry}
use Rattle.model.specs.View.{View}
use Rattle.ordering.specs.Cuts.{Pending, users_view}
use Rattle.ordering.specs.Ghosts.{at_rest}
use Rattle.ordering.proofs.Flushes.{users_flushed}
use Rattle.machine.specs.State.{State}
use Rattle.plans_data.specs.Now.{now}
use Rattle.plans_data.specs.Release.{MayRelease, releasing}
use Rattle.plans_data.proofs.Releasing.{release_issues}
use Rattle.queue_model.specs.Files.{Written, updates}
use Rattle.queue_model.proofs.HoldLemmas.{CutsHold, HeldSince, UsersHold, course_holds}
use Rattle.courses.specs.Leads.{IsMoment, Named}
use Rattle.courses.specs.Life.{Life, Begins, Carries, IsLived, Releases}
use Rattle.courses.specs.Plans.{IsPlan}
use Rattle.courses.proofs.Firm.{Nowhere, firm_holds, still_firm}
use Rattle.courses.proofs.LifeBytes.{LeavesBehind}
use Rattle.courses.proofs.Pieces.{nothing_yet, released_fits}
use Rattle.courses.proofs.PlansHold.{Closed, plan_holds}
use Rattle.courses.proofs.PlansLead.{moment_agrees}

module _ (geo : Geometry) (mounted : View) (P : ℕ → ℕ → ℕ → List ℕ → Type 0) (h : List Written) (cut : List Bool) (disk : View) (q : List Pending) (held safe : ℕ → Bool)
    (moment : IsMoment geo mounted h cut (at_rest held safe) disk q) (users : UsersHold geo mounted P h) (cuts : CutsHold geo mounted P h cut) where
  same : users_view mounted (updates h) ≡ users_view disk q
  same = sym (users_flushed mounted (updates h) cut moment.good.closed) ∙ ap₂ users_view moment.device moment.pending

  since : HeldSince geo mounted P h h
  since zero l = users
  since (suc m) l = absurd (omega (arith, l))

  -- it is true after this was written since, of which this is durable
  abbrev pub Lasts : List Written → List Bool → Type 0
  Lasts h' cut' = UsersHold geo mounted P h' × CutsHold geo mounted P h' cut'

  lasts : (disk' : View) (q' : List Pending) (held' safe' : ℕ → Bool) (life : Life geo disk q held safe disk' q' held' safe' []) (lived : IsLived geo mounted h cut disk q held safe disk' q' held' safe' [] life)
      → UsersHold geo mounted P lived.h' → HeldSince geo mounted P h lived.h' → Lasts lived.h' lived.cut'
  lasts disk' q' held' safe' life lived saw each = (saw, (course_holds geo mounted P h cut (at_rest held safe) moment.good cuts lived.h' lived.cut' [] (at_rest held' safe') lived.course each).0)

  -- through a plan
  pub plan_lasts : (old : State) (e : old.held ≡ held) (file : ℕ) (p : List Pending) (held' safe' : ℕ → Bool) (plan : IsPlan geo disk q old safe file p held' safe') → LeavesBehind plan → Closed mounted P h plan
      → (lived : IsLived geo mounted h cut disk q held safe disk p held' safe' [] (Carries old file p held' safe' Begins e plan)) → Lasts lived.h' lived.cut'
  plan_lasts old e file p held' safe' plan leaves closed lived =
      let all = moment_agrees geo mounted h cut (at_rest old.held safe) disk q (subst (λ x. IsMoment geo mounted h cut (at_rest x safe) disk q) (sym e) moment) in
      let named = subst (λ x. Named geo mounted file x q lived.h' p) lived.wrote.1 lived.wrote.2 in
      let r = plan_holds geo mounted P disk q old safe all h h users since same lived.h' file p held' safe' plan leaves closed named in
      lasts disk p held' safe' (Carries old file p held' safe' Begins e plan) lived r.users_hold r.since

-- and with nothing pending through the end of a snapshot
module _ (geo : Geometry) (mounted : View) (P : ℕ → ℕ → ℕ → List ℕ → Type 0) (h : List Written) (cut : List Bool) (disk : View) (held safe : ℕ → Bool)
    (moment : IsMoment geo mounted h cut (at_rest held safe) disk []) (users : UsersHold geo mounted P h) (cuts : CutsHold geo mounted P h cut) where
  pub release_lasts : (old : State) (held' : ℕ → Bool) (blocks : List ℕ) (e : old.held ≡ held) (may : MayRelease geo (now disk [] old) held' blocks)
      → (lived : IsLived geo mounted h cut disk [] held safe disk (releasing blocks []) held' safe [] (Releases old held' blocks Begins e may)) → Lasts geo mounted P h cut disk [] held safe moment users cuts lived.h' lived.cut'
  release_lasts old held' blocks e may lived =
      let all = moment_agrees geo mounted h cut (at_rest old.held safe) disk [] (subst (λ x. IsMoment geo mounted h cut (at_rest x safe) disk []) (sym e) moment) in
      let named = subst (λ x. Named geo mounted 0 x [] lived.h' (releasing blocks [])) lived.wrote.1 lived.wrote.2 in
      let fit = released_fits geo disk 0 [] blocks [] (nothing_yet geo disk 0 []) in
      let firm = still_firm geo disk 0 [] _ (releasing blocks []) _ (release_issues geo disk old safe held' blocks may all) fit.0 fit.1 in
      let r = firm_holds geo mounted P Nowhere 0 disk h h users (since geo mounted P h cut disk [] held safe moment users cuts) (λ n k bytes x. absurd x) [] [] refl
      (same geo mounted P h cut disk [] held safe moment users cuts) lived.h' (releasing blocks []) named firm in
      lasts geo mounted P h cut disk [] held safe moment users cuts disk (releasing blocks []) held' safe (Releases old held' blocks Begins e may) lived r.users_hold r.since
