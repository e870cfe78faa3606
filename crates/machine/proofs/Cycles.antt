-- What a run leaves of the snapshots and of the plan.
use Rattle.std.proofs.Common.{◌≡◌, ◌<◌, ◌≤◌, ℕ, suc, true, List, [], ◌∷◌, ◌⊎◌, inl, inr, refl, sym, ap, ◌∙◌, subst, arith, IsTrue, IsFalse, Some, None, Ok, Err}
use Rattle.std.specs.Prelude.{slice_get, is_some}
use Rattle.std.proofs.lemmas.Bool.{cases_eq, both_ways}
use Rattle.model.specs.Layout.{Geometry, IsGeometry}
use Rattle.model.specs.View.{View}
use Rattle.model.specs.Cells.{put_at}
use Rattle.model.proofs.Places.{put_here, put_there}
use Rattle.findings.specs.declared.repair.Repair.{Repair}
use Rattle.layout.specs.declared.refusal.Refusal.TheVariants.{PlanStands, TooManySnapshots}
use Rattle.machine.specs.Standing.{Snapshots, image_at, latest_at, begun, ended, too_many, AreNumbered}
use Rattle.machine.specs.State.{State, Plan, snapshot_at, latest}
use Rattle.machine.specs.Command.{Check, Command, Freeze, SnapRead, Release, Install, RepairAt, Answer, Done, Bytes, Image, Reply}
use Rattle.machine.specs.Causes.{Accepts, causes, refusal_of}
use Rattle.machine.specs.Cells.{seen}
use Rattle.machine.specs.Snapshot.{settled, frozen}
use Rattle.machine.specs.Step.{Step, Effect, Run}
use Rattle.machine.specs.Runs.{IsTaken}
use Rattle.machine.specs.Balance.{Balance, Exact, OwesNothing}
use Rattle.machine.proofs.Walks.{quiet, when_none}
use Rattle.machine.proofs.Exactness.{exact}
use Rattle.machine.proofs.Paying.{done_plan}
use Rattle.machine.proofs.AllSteps.{run_keeps, run_owes_nothing}
use Rattle.machine.proofs.Snapshots.{at_here, at_other, at_others, none_left, latest_ended, numbered_begun, numbered_ended}
use Rattle.machine.proofs.Aside.{effect_aside, repaired_snapshots}

-- ---- the snapshots

-- what a command makes of the snapshots: nothing; one begins, which a freeze does where there is room; or one ends
data Turns (old : Snapshots View) (command : Command) (new : Snapshots View) : Type 0 where
  Same : new ≡ old → Turns old command new
  Begins : (image : View) → command ≡ Freeze → IsFalse (too_many old) → new ≡ begun old image → Turns old command new
  Ends : (s : ℕ) → command ≡ Release s → new ≡ ended old s → Turns old command new

freeze_room : (geo : Geometry) (old : State) → refusal_of geo old Freeze ≡ None → IsFalse (too_many old.snapshots)
unfolding causes
freeze_room geo old none = when_none (too_many old.snapshots) TooManySnapshots (quiet (causes geo old Freeze) none).0

effect_turns : (geo : Geometry) (old new : State) (command : Command) (answer : Answer) → refusal_of geo old command ≡ None → Effect geo old command answer new → Turns old.snapshots command new.snapshots
effect_turns geo old new command answer accepted e = elim (effect_aside geo old new command answer e) [
  | inl a ↦ Same a.0.0
  | inr special ↦ elim special [
    | inl snapshot ↦ elim snapshot [
      | inl f ↦ Begins (settled geo old) f (freeze_room geo old (subst (λ c. refusal_of geo old c ≡ None) f accepted)) (frozen_there answer (subst (λ c. Effect geo old c answer new) f e))
      | inr r ↦ Ends r.0 r.1 (released_there r.0 answer (subst (λ c. Effect geo old c answer new) r.1 e))
    ]
    | inr planned ↦ Same (elim planned [
      | inl install ↦ installed install.0 answer (subst (λ c. Effect geo old c answer new) install.1 e)
      | inr repair ↦ mended repair.0 answer (subst (λ c. Effect geo old c answer new) repair.1 e)
    ])
  ]
]
  where
    frozen_there : (a : Answer) → Effect geo old Freeze a new → new.snapshots ≡ begun old.snapshots (settled geo old)
    frozen_there a e = ap (λ (s : State). s.snapshots) e.1

    released_there : (s : ℕ) (a : Answer) → Effect geo old (Release s) a new → new.snapshots ≡ ended old.snapshots s
    released_there s Done e = ap (λ (t : State). t.snapshots) e
    released_there s _ e = absurd e

    installed : (check : Check) (a : Answer) → Effect geo old (Install check) a new → new.snapshots ≡ old.snapshots
    installed check Done e = ap (λ (s : State). s.snapshots) e.whole
    installed check _ e = absurd e

    mended : (k : ℕ) (a : Answer) → Effect geo old (RepairAt k) a new → new.snapshots ≡ old.snapshots
    mended k Done e = ap (λ (s : State). s.snapshots) e.whole ∙ repaired_snapshots geo old e.repair
    mended k _ e = absurd e

-- so each step does, if it is carried out; and each leaves the snapshots as they are, if it is refused
step_turns : (geo : Geometry) (old new : State) (command : Command) (answer : Answer) → Step geo old command (Ok answer) new → Turns old.snapshots command new.snapshots
step_turns geo old new command answer s = effect_turns geo old new command answer s.0.0 s.1

module _ (old new : Snapshots View) (command : Command) where
  turned_grows : Turns old command new → old.freezes ≤ new.freezes
  turned_grows (Same e) = omega (arith, ap (λ (x : Snapshots View). x.freezes) e)
  turned_grows (Begins image f room e) = let more : new.freezes ≡ suc old.freezes = ap (λ (x : Snapshots View). x.freezes) e in omega (arith, more)
  turned_grows (Ends s r e) = let same : new.freezes ≡ old.freezes = ap (λ (x : Snapshots View). x.freezes) e in omega (arith, same)

  turned_stays : (s : ℕ) → s < old.freezes → (command ≡ Release s → ⊥) → Turns old command new → image_at new.standing s ≡ image_at old.standing s
  turned_stays s below not_released (Same e) = ap (λ (x : Snapshots View). image_at x.standing s) e
  turned_stays s below not_released (Begins image f room e) =
      ap (λ (x : Snapshots View). image_at x.standing s) e ∙ at_other old.freezes s image old.standing (λ same. omega (arith, same, below))
  turned_stays s below not_released (Ends t r e) =
      ap (λ (x : Snapshots View). image_at x.standing s) e ∙ at_others s t (λ same. not_released (r ∙ ap Release (sym same))) old.standing

  turned_gone : (s : ℕ) → s < old.freezes → image_at old.standing s ≡ None → Turns old command new → image_at new.standing s ≡ None
  turned_gone s below none (Same e) = ap (λ (x : Snapshots View). image_at x.standing s) e ∙ none
  turned_gone s below none (Begins image f room e) =
      ap (λ (x : Snapshots View). image_at x.standing s) e ∙ at_other old.freezes s image old.standing (λ same. omega (arith, same, below)) ∙ none
  turned_gone s below none (Ends t r e) = ap (λ (x : Snapshots View). image_at x.standing s) e ∙ none_left s t old.standing none

  turned_numbered : AreNumbered old → Turns old command new → AreNumbered new
  turned_numbered n (Same e) = subst (λ (x : Snapshots View). AreNumbered x) (sym e) n
  turned_numbered n (Begins image f room e) = subst (λ (x : Snapshots View). AreNumbered x) (sym e) (numbered_begun old image room n)
  turned_numbered n (Ends s r e) = subst (λ (x : Snapshots View). AreNumbered x) (sym e) (numbered_ended old s n)

  -- a command that is no freeze leaves the snapshot of the latest one, or ends it
  turned_latest : (command ≡ Freeze → ⊥) → Turns old command new → (latest_at new.standing new.freezes ≡ latest_at old.standing old.freezes) ⊎ (latest_at new.standing new.freezes ≡ None)
  turned_latest no_freeze (Same e) = inl (ap (λ (x : Snapshots View). latest_at x.standing x.freezes) e)
  turned_latest no_freeze (Begins image f room e) = absurd (no_freeze f)
  turned_latest no_freeze (Ends s r e) = elim (latest_ended old.standing old.freezes s) [
    | inl same ↦ inl (ap (λ (x : Snapshots View). latest_at x.standing x.freezes) e ∙ same)
    | inr none ↦ inr (ap (λ (x : Snapshots View). latest_at x.standing x.freezes) e ∙ none)
  ]

-- ---- the same of runs

pub run_grows : (geo : Geometry) (old new : State) (commands : List Command) (replies : List Reply) → Run geo old commands replies new → old.snapshots.freezes ≤ new.snapshots.freezes
run_grows geo old new [] [] r = omega (arith, ap (λ (s : State). s.snapshots.freezes) r)
run_grows geo old new (c ∷ cs) (Ok a ∷ xs) r = omega (arith, turned_grows old.snapshots r.0.snapshots c (step_turns geo old r.0 c a r.1), run_grows geo r.0 new cs xs r.2)
run_grows geo old new (c ∷ cs) (Err x ∷ xs) r = omega (arith, ap (λ (s : State). s.snapshots.freezes) r.1.1, run_grows geo r.0 new cs xs r.2)
run_grows geo old new [] (x ∷ xs) r = absurd r
run_grows geo old new (c ∷ cs) [] r = absurd r

pub run_stays : (geo : Geometry) (old new : State) (commands : List Command) (replies : List Reply) (s : ℕ) → s < old.snapshots.freezes → Run geo old commands replies new
    → (IsTaken (Release s) commands replies → ⊥) → snapshot_at new s ≡ snapshot_at old s
run_stays geo old new [] [] s below r f = ap (λ (t : State). snapshot_at t s) r
run_stays geo old new (c ∷ cs) (Ok a ∷ xs) s below r f =
    let turns = step_turns geo old r.0 c a r.1 in
    run_stays geo r.0 new cs xs s (omega (arith, below, turned_grows old.snapshots r.0.snapshots c turns)) r.2 (λ t. f (inr t))
    ∙ turned_stays old.snapshots r.0.snapshots c s below (λ e. f (inl e)) turns
run_stays geo old new (c ∷ cs) (Err x ∷ xs) s below r f =
    run_stays geo r.0 new cs xs s (subst (λ (t : State). s < t.snapshots.freezes) (sym r.1.1) below) r.2 f ∙ ap (λ (t : State). snapshot_at t s) r.1.1
run_stays geo old new [] (x ∷ xs) s below r f = absurd r
run_stays geo old new (c ∷ cs) [] s below r f = absurd r

pub run_gone : (geo : Geometry) (old new : State) (commands : List Command) (replies : List Reply) (s : ℕ) → s < old.snapshots.freezes → snapshot_at old s ≡ None → Run geo old commands replies new → snapshot_at new s ≡ None
run_gone geo old new [] [] s below none r = ap (λ (t : State). snapshot_at t s) r ∙ none
run_gone geo old new (c ∷ cs) (Ok a ∷ xs) s below none r =
    let turns = step_turns geo old r.0 c a r.1 in
    run_gone geo r.0 new cs xs s (omega (arith, below, turned_grows old.snapshots r.0.snapshots c turns)) (turned_gone old.snapshots r.0.snapshots c s below none turns) r.2
run_gone geo old new (c ∷ cs) (Err x ∷ xs) s below none r =
    run_gone geo r.0 new cs xs s (subst (λ (t : State). s < t.snapshots.freezes) (sym r.1.1) below) (ap (λ (t : State). snapshot_at t s) r.1.1 ∙ none) r.2
run_gone geo old new [] (x ∷ xs) s below none r = absurd r
run_gone geo old new (c ∷ cs) [] s below none r = absurd r

pub run_numbered : (geo : Geometry) (old new : State) (commands : List Command) (replies : List Reply) → AreNumbered old.snapshots → Run geo old commands replies new → AreNumbered new.snapshots
run_numbered geo old new [] [] n r = subst (λ (t : State). AreNumbered t.snapshots) (sym r) n
run_numbered geo old new (c ∷ cs) (Ok a ∷ xs) n r = run_numbered geo r.0 new cs xs (turned_numbered old.snapshots r.0.snapshots c n (step_turns geo old r.0 c a r.1)) r.2
run_numbered geo old new (c ∷ cs) (Err x ∷ xs) n r = run_numbered geo r.0 new cs xs (subst (λ (t : State). AreNumbered t.snapshots) (sym r.1.1) n) r.2
run_numbered geo old new [] (x ∷ xs) n r = absurd r
run_numbered geo old new (c ∷ cs) [] n r = absurd r

-- without a freeze the snapshot of the latest one stays, or does not stand
pub run_latest : (geo : Geometry) (old new : State) (commands : List Command) (replies : List Reply) → Run geo old commands replies new → (IsTaken Freeze commands replies → ⊥) → (latest new ≡ latest old) ⊎ (latest new ≡ None)
run_latest geo old new [] [] r f = inl (ap latest r)
run_latest geo old new (c ∷ cs) (Ok a ∷ xs) r f = elim (run_latest geo r.0 new cs xs r.2 (λ t. f (inr t))) [
  | inr ended ↦ inr ended
  | inl same ↦ elim (turned_latest old.snapshots r.0.snapshots c (λ e. f (inl e)) (step_turns geo old r.0 c a r.1)) [ inl as_before ↦ inl (same ∙ as_before) | inr ended ↦ inr (same ∙ ended) ]
]
run_latest geo old new (c ∷ cs) (Err x ∷ xs) r f = elim (run_latest geo r.0 new cs xs r.2 f) [ inl same ↦ inl (same ∙ ap latest r.1.1) | inr ended ↦ inr ended ]
run_latest geo old new [] (x ∷ xs) r f = absurd r
run_latest geo old new (c ∷ cs) [] r f = absurd r

-- ---- a freeze

-- the image that a freeze answers with, and its number
pub frozen_image : (geo : Geometry) (old new : State) (s : ℕ) (image : View) → Step geo old Freeze (Ok (Image s image)) new → settled geo old ≡ image
frozen_image geo old new s image step = same_image s image old.snapshots.freezes (settled geo old) step.1.0
  where
    same_image : (s : ℕ) (v : View) (t : ℕ) (w : View) → Image s v ≡ Image t w → w ≡ v
    same_image s v t w e = cc

pub frozen_number : (geo : Geometry) (old new : State) (s : ℕ) (image : View) → Step geo old Freeze (Ok (Image s image)) new → (s ≡ old.snapshots.freezes) × (new.snapshots.freezes ≡ suc s)
frozen_number geo old new s image step = let same = same_number s image old.snapshots.freezes (settled geo old) step.1.0 in (same, ap (λ (t : State). t.snapshots.freezes) step.1.1 ∙ ap suc (sym same))
  where
    same_number : (s : ℕ) (v : View) (t : ℕ) (w : View) → Image s v ≡ Image t w → s ≡ t
    same_number s v t w e = cc

pub frozen_begins : (geo : Geometry) (old new : State) (s : ℕ) (image : View) → Step geo old Freeze (Ok (Image s image)) new → (snapshot_at new s ≡ Some image) × (latest new ≡ Some image)
frozen_begins geo old new s image step = (
  ap (snapshot_at new) (frozen_number geo old new s image step).0 ∙ ap (λ (t : State). snapshot_at t old.snapshots.freezes) step.1.1 ∙ here,
  ap latest step.1.1 ∙ here,
)
  where
    here : snapshot_at (frozen geo old) old.snapshots.freezes ≡ Some image
    here = at_here old.snapshots.freezes (settled geo old) old.snapshots.standing ∙ ap Some (frozen_image geo old new s image step)

pub frozen_read : (geo : Geometry) (old mid new : State) (commands : List Command) (replies : List Reply) (s : ℕ) (image : View) (i k : ℕ) (bytes : List ℕ) → s < old.snapshots.freezes → snapshot_at old s ≡ Some image
    → Run geo old commands replies mid → (IsTaken (Release s) commands replies → ⊥) → Step geo mid (SnapRead s i k) (Ok (Bytes bytes)) new → bytes ≡ seen geo image i k
frozen_read geo old mid new commands replies s image i k bytes below stands r f step =
    step.1.2 ∙ ap (λ w. seen geo w i k) (some_view step.1.0 image (sym step.1.1 ∙ run_stays geo old mid commands replies s below r f ∙ stands))
  where
    some_view : (v w : View) → Some v ≡ Some w → v ≡ w
    some_view v w e = cc

-- ---- the plan

-- a plan stands that has the same repairs, of which those that were done are done, and these
abbrev Stays : (ℕ → Type 0) → Plan → State → Type 0
Stays more plan new = (next : Plan) × (new.plan ≡ Some next) × (next.repairs ≡ plan.repairs) × ((k : ℕ) → IsTrue (plan.done k) ⊎ more k → IsTrue (next.done k))

module _ (geo : Geometry) (old new : State) (plan : Plan) (planned : old.plan ≡ Some plan) where
  same_plan : (p q : Plan) → Some p ≡ Some q → p ≡ q
  same_plan p q e = cc

  as_it_was : (command : Command) → new.plan ≡ old.plan → ((k : ℕ) → command ≡ RepairAt k → ⊥) → Stays (λ k. command ≡ RepairAt k) plan new
  as_it_was command same none = (plan, same ∙ planned, refl, λ k h. elim h [ inl t ↦ t | inr e ↦ absurd (none k e) ])

  installed : (check : Check) (a : Answer) → refusal_of geo old (Install check) ≡ None → Effect geo old (Install check) a new → ⊥
  unfolding causes
  installed check a none e = both_ways (is_some old.plan) (when_none (is_some old.plan) PlanStands (quiet (causes geo old (Install check)) none).1.0) (ap is_some planned)

  mended : (k : ℕ) (a : Answer) → Effect geo old (RepairAt k) a new → Stays (λ j. RepairAt k ≡ RepairAt j) plan new
  mended k Done e = (
    record e.plan { done = put_at e.plan.done k true },
    ap (λ (s : State). s.plan) e.whole,
    ap (λ (p : Plan). p.repairs) is,
    λ j h. elim (cases_eq j k) [
      | inl here ↦ subst (λ n. IsTrue (put_at e.plan.done k true n)) (sym here) (put_here e.plan.done k true)
      | inr there ↦ put_there e.plan.done k j true there ∙ elim h [ inl t ↦ ap (λ (p : Plan). p.done j) is ∙ t | inr c ↦ absurd (there (same_place c)) ]
    ],
  )
    where
      is : e.plan ≡ plan
      is = same_plan e.plan plan (sym e.planned ∙ planned)

      same_place : {j : ℕ} → RepairAt k ≡ RepairAt j → j ≡ k
      same_place c = cc
  mended k _ e = absurd e

  effect_plan : (command : Command) (answer : Answer) → Accepts geo old command → Effect geo old command answer new → (command ≡ Freeze → ⊥) → Stays (λ k. command ≡ RepairAt k) plan new
  effect_plan command answer a e no_freeze = elim (effect_aside geo old new command answer e) [
    | inl s ↦ as_it_was command s.0.1 s.1
    | inr special ↦ elim special [
      | inl snapshot ↦ elim snapshot [
        | inl f ↦ absurd (no_freeze f)
        | inr r ↦ released r.0 answer r.1 (subst (λ c. Effect geo old c answer new) r.1 e)
      ]
      | inr planned ↦ elim planned [
        | inl install ↦ absurd (installed install.0 answer (subst (λ c. refusal_of geo old c ≡ None) install.1 a.0) (subst (λ c. Effect geo old c answer new) install.1 e))
        | inr repair ↦ subst (λ c. Stays (λ k. c ≡ RepairAt k) plan new) (sym repair.1) (mended repair.0 answer (subst (λ c. Effect geo old c answer new) repair.1 e))
      ]
    ]
  ]
    where
      released : (s : ℕ) (x : Answer) → command ≡ Release s → Effect geo old (Release s) x new → Stays (λ k. command ≡ RepairAt k) plan new
      released s Done is e = as_it_was command (ap (λ (t : State). t.plan) e) (λ k c. (let bad : Release s ≡ RepairAt k = sym is ∙ c in absurd cc))
      released s _ is e = absurd e

run_plan : (geo : Geometry) (old new : State) (commands : List Command) (replies : List Reply) (plan : Plan) → old.plan ≡ Some plan → Run geo old commands replies new → (IsTaken Freeze commands replies → ⊥)
    → Stays (λ k. IsTaken (RepairAt k) commands replies) plan new
run_plan geo old new [] [] plan planned r f = (plan, ap (λ (s : State). s.plan) r ∙ planned, refl, λ k h. elim h [ inl t ↦ t | inr none ↦ absurd none ])
run_plan geo old new (c ∷ cs) (Ok a ∷ xs) plan planned r f =
    let s = effect_plan geo old r.0 plan planned c a r.1.0 r.1.1 (λ e. f (inl e)) in
    let t = run_plan geo r.0 new cs xs s.0 s.1 r.2 (λ x. f (inr x)) in (
      t.0,
      t.1,
      t.2 ∙ s.2,
      λ k h. t.3 k (elim h [
        | inl was ↦ inl (s.3 k (inl was))
        | inr taken ↦ elim taken [ inl here ↦ inl (s.3 k (inr here)) | inr later ↦ inr later ]
      ]),
    )
run_plan geo old new (c ∷ cs) (Err x ∷ xs) plan planned r f = run_plan geo r.0 new cs xs plan (ap (λ (s : State). s.plan) r.1.1 ∙ planned) r.2 f
run_plan geo old new [] (x ∷ xs) plan planned r f = absurd r
run_plan geo old new (c ∷ cs) [] plan planned r f = absurd r

-- a plan all of whose repairs are done, or carried out in the run
pub whole_cycle : (geo : Geometry) → IsGeometry geo → (old new : State) (commands : List Command) (replies : List Reply) (plan : Plan) → Balance geo old → old.plan ≡ Some plan → Run geo old commands replies new
    → (IsTaken Freeze commands replies → ⊥) → ((k : ℕ) (r : Repair) → slice_get plan.repairs k ≡ Some r → IsTrue (plan.done k) ⊎ IsTaken (RepairAt k) commands replies)
    → OwesNothing geo new × Exact geo new
whole_cycle geo g old new commands replies plan b planned r f all = (none, exact geo new (run_keeps geo g old new commands replies b r) none)
  where
    s : Stays (λ k. IsTaken (RepairAt k) commands replies) plan new
    s = run_plan geo old new commands replies plan planned r f

    none : OwesNothing geo new
    none = done_plan geo new s.0 s.1 (λ k x e. s.3 k (all k x (sym (ap (λ rs. slice_get rs k) s.2) ∙ e)))

pub stays_exact : (geo : Geometry) → IsGeometry geo → (old new : State) (commands : List Command) (replies : List Reply) → Balance geo old → OwesNothing geo old → Run geo old commands replies new → OwesNothing geo new × Exact geo new
stays_exact geo g old new commands replies b none r =
    let last = run_owes_nothing geo g old new commands replies b none r in
    (last, exact geo new (run_keeps geo g old new commands replies b r) last)
