-- The causes of the machine: none of them is a want of memory, the device, or a full trace.
use Rattle.std.proofs.Common.{◌≡◌, ◌≢◌, inl, inr, refl, sym, ◌∙◌, Bool, true, false, List, [], ◌∷◌, Option, Some, None, Result, Ok, Err, ℕ, ap, subst, if◌then◌else◌}
use Rattle.std.specs.Result.{result_err}
use Rattle.std.specs.Option.{option_and_then}
use Rattle.model.specs.Layout.{Geometry, root}
use Rattle.model.specs.View.{View}
use Rattle.model.specs.Uses.{is_directory_at}
use Rattle.layout.specs.declared.refusal.Refusal.{Refusal}
use Rattle.layout.specs.declared.refusal.Refusal.TheVariants.{Device, ForeignPlan, NoMemory, NotDirectory, NotFound, TraceFull}
use Rattle.machine.specs.State.{State, snapshot_at}
use Rattle.machine.specs.Below.{when, first_of}
use Rattle.machine.specs.Paths.{walk, target, lookup, last_part, parts}
use Rattle.machine.specs.Command.{Command, Create, Mkdir, Link, Unlink, Rmdir, Rename, Open, Close, Read, Write, Truncate, ListNames, Stat, Freeze, SnapRead, Release, Install, RepairAt, Flush, Sync, SetAttributes, ReadAttributes}
use Rattle.machine.specs.Causes.{FirstRefusal, causes, only, no_way, missing}
use Rattle.machine.specs.Step.{Step}

-- what the machine itself does not know: memory, the device and traces
is_outer : Refusal → Bool
is_outer NoMemory = true
is_outer Device = true
is_outer TraceFull = true
is_outer _ = false

-- a cause of the machine's own
Inner : Option Refusal → Type 0
Inner None = Unit {0}
Inner (Some r) = is_outer r ≡ false

abbrev AllInner : List (Option Refusal) → Type 0
AllInner [] = Unit {0}
AllInner (cause ∷ causes) = Inner cause × AllInner causes

first_inner : (causes : List (Option Refusal)) → AllInner causes → Inner (first_of causes)
unfolding Inner
first_inner [] all = tt
first_inner (None ∷ causes) all = first_inner causes all.1
first_inner (Some r ∷ causes) all = all.0

tested : (test : Bool) (r : Refusal) → is_outer r ≡ false → Inner (when test r)
unfolding Inner
tested true r e = e
tested false r e = tt

inner_only : (test : Bool) (cause : Option Refusal) → Inner cause → Inner (only test cause)
unfolding Inner
inner_only true cause is = is
inner_only false cause is = tt

inner_in : {X : Type 0} (x : Option X) (cause : X → Option Refusal) → ((y : X) → Inner (cause y)) → Inner (option_and_then cause x)
unfolding Inner
inner_in None cause is = tt
inner_in (Some y) cause is = is y

-- ---- paths

inner_step : (test : Bool) (found : Option ℕ) (rest : ℕ → Result ℕ Refusal) → ((i : ℕ) → Inner (result_err (rest i)))
    → Inner (result_err (if test then elim found [ None ↦ Err NotFound | Some i ↦ rest i ] else Err NotDirectory))
unfolding Inner is_outer
inner_step true None rest is = refl
inner_step true (Some i) rest is = is i
inner_step false found rest is = refl

inner_end : (test : Bool) (d : ℕ) → Inner (result_err (if test then Ok d else Err NotDirectory))
unfolding Inner is_outer
inner_end true d = tt
inner_end false d = refl

inner_walk : (geo : Geometry) (view : View) (d : ℕ) (ps : List (List ℕ)) → Inner (result_err (walk geo view d ps))
unfolding Inner walk is_outer
inner_walk geo view d [] = refl
inner_walk geo view d (part ∷ []) = inner_end (is_directory_at geo view d) d
inner_walk geo view d (part ∷ next ∷ ps) = inner_step (is_directory_at geo view d) (lookup geo view d part) (λ i. walk geo view i (next ∷ ps)) (λ i. inner_walk geo view i (next ∷ ps))

inner_found : (found : Option ℕ) → Inner (result_err (elim found [ None ↦ Err NotFound | Some i ↦ Ok i ]))
unfolding Inner is_outer
inner_found None = refl
inner_found (Some i) = tt

inner_after : (w : Result ℕ Refusal) (found : ℕ → Option ℕ) → Inner (result_err w)
    → Inner (result_err (elim w [ Err r ↦ Err r | Ok d ↦ elim (found d) [ None ↦ Err NotFound | Some i ↦ Ok i ] ]))
unfolding Inner
inner_after (Err r) found is = is
inner_after (Ok d) found is = inner_found (found d)

inner_target : (geo : Geometry) (view : View) (ps : List (List ℕ)) → Inner (result_err (target geo view ps))
unfolding Inner target
inner_target geo view [] = tt
inner_target geo view (part ∷ ps) = inner_after (walk geo view root (part ∷ ps)) (λ d. lookup geo view d (last_part (part ∷ ps))) (inner_walk geo view root (part ∷ ps))

inner_way : (geo : Geometry) (view : View) (p : List ℕ) → Inner (no_way geo view p)
inner_way geo view p = inner_walk geo view root (parts p)

inner_missing : (geo : Geometry) (view : View) (p : List ℕ) → Inner (missing geo view p)
inner_missing geo view p = inner_target geo view (parts p)

-- ---- the lists of causes

all_inner : (geo : Geometry) (old : State) (command : Command) → AllInner (causes geo old command)
unfolding causes is_outer
all_inner geo old (Create p words) =
    (tested _ _ refl, (tested _ _ refl, (inner_way geo old.view p, (tested _ _ refl, (tested _ _ refl, (tested _ _ refl, (tested _ _ refl, tt)))))))
all_inner geo old (Mkdir p words) =
    (tested _ _ refl, (tested _ _ refl, (inner_way geo old.view p, (tested _ _ refl, (tested _ _ refl, (tested _ _ refl, (tested _ _ refl, (tested _ _ refl, tt))))))))
all_inner geo old (Link p q) = (
  tested _ _ refl,
  (
    tested _ _ refl,
    (
      tested _ _ refl,
      (
        inner_missing geo old.view p,
        (
          tested _ _ refl,
          (
            inner_way geo old.view q,
            (
              tested _ _ refl,
              (tested _ _ refl, (tested _ _ refl, (tested _ _ refl, tt))),
            ),
          ),
        ),
      ),
    ),
  ),
)
all_inner geo old (Unlink p) = (tested _ _ refl, (tested _ _ refl, (inner_missing geo old.view p, (tested _ _ refl, tt))))
all_inner geo old (Rmdir p) = (tested _ _ refl, (tested _ _ refl, (inner_missing geo old.view p, (tested _ _ refl, (tested _ _ refl, tt)))))
all_inner geo old (Rename p q) = (
  tested _ _ refl,
  (
    tested _ _ refl,
    (
      tested _ _ refl,
      (
        tested _ _ refl,
        (
          inner_missing geo old.view p,
          (
            inner_way geo old.view q,
            (
              inner_only _ _ (tested _ _ refl),
              (
                tested _ _ refl,
                (inner_only _ _ (tested _ _ refl), (inner_only _ _ (tested _ _ refl), (inner_only _ _ (tested _ _ refl), tt))),
              ),
            ),
          ),
        ),
      ),
    ),
  ),
)
all_inner geo old (Open p) = (tested _ _ refl, (inner_missing geo old.view p, (tested _ _ refl, (tested _ _ refl, tt))))
all_inner geo old (Close h) = (tested _ _ refl, tt)
all_inner geo old (Read h k) = (tested _ _ refl, (tested _ _ refl, tt))
all_inner geo old (Write h k piece) = (tested _ _ refl, (tested _ _ refl, (tested _ _ refl, (tested _ _ refl, (tested _ _ refl, tt)))))
all_inner geo old (Truncate h n) = (tested _ _ refl, (tested _ _ refl, tt))
all_inner geo old (SetAttributes i words) = (tested _ _ refl, tt)
all_inner geo old (ReadAttributes i) = (tested _ _ refl, tt)
all_inner geo old (ListNames p) = (tested _ _ refl, (inner_missing geo old.view p, (tested _ _ refl, tt)))
all_inner geo old (Stat p) = (tested _ _ refl, (inner_missing geo old.view p, tt))
all_inner geo old Freeze = (tested _ _ refl, tt)
all_inner geo old (SnapRead s i k) =
    (tested _ _ refl, (inner_in (snapshot_at old s) _ (λ v. tested _ _ refl), (inner_in (snapshot_at old s) _ (λ v. tested _ _ refl), (inner_in (snapshot_at old s) _ (λ v. tested _ _ refl), tt))))
all_inner geo old (Release s) = (tested _ _ refl, tt)
all_inner geo old (Install check) = (tested _ _ refl, (tested _ _ refl, (tested _ _ refl, tt)))
all_inner geo old (RepairAt k) = (tested _ _ refl, (inner_in old.plan _ (λ plan. tested _ _ refl), (inner_in old.plan _ (λ plan. tested _ _ refl), tt)))
all_inner geo old (Flush a) = (tested _ _ refl, tt)
all_inner geo old Sync = tt

-- ---- the first one of them

foreign_inner : (r : Refusal) → r ≡ ForeignPlan → is_outer r ≡ false
unfolding is_outer
foreign_inner r e = ap is_outer e

first_not_outer : (geo : Geometry) (old : State) (command : Command) (r : Refusal) → FirstRefusal geo old command r → is_outer r ≡ false
unfolding Inner
first_not_outer geo old command r (inl first) = subst Inner first (first_inner (causes geo old command) (all_inner geo old command))
first_not_outer geo old command r (inr foreign) = foreign_inner r foreign.2

not_outer : (r s : Refusal) → is_outer r ≡ false → is_outer s ≡ true → r ≢ s
not_outer r s inner outer e = let bad : false ≡ true = sym inner ∙ ap is_outer e ∙ outer in cc

pub first_not_device : (geo : Geometry) (old : State) (command : Command) (r : Refusal) → FirstRefusal geo old command r → r ≢ Device
unfolding is_outer
first_not_device geo old command r first = not_outer r Device (first_not_outer geo old command r first) refl

pub first_not_full : (geo : Geometry) (old : State) (command : Command) (r : Refusal) → FirstRefusal geo old command r → r ≢ TraceFull
unfolding is_outer
first_not_full geo old command r first = not_outer r TraceFull (first_not_outer geo old command r first) refl

pub first_not_memory : (geo : Geometry) (old : State) (command : Command) (r : Refusal) → FirstRefusal geo old command r → r ≢ NoMemory
unfolding is_outer
first_not_memory geo old command r first = not_outer r NoMemory (first_not_outer geo old command r first) refl

-- no step answers that a trace is full
pub step_not_full : (geo : Geometry) (old new : State) (command : Command) → Step geo old command (Err TraceFull) new → ⊥
step_not_full geo old new command s =
    elim s.0 [
      | inl memory ↦ let e : TraceFull ≡ NoMemory = memory in cc
      | inr (inl device) ↦ let e : TraceFull ≡ Device = device in cc
      | inr (inr first) ↦ first_not_full geo old command TraceFull first refl
    ]
