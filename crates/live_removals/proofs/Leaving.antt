-- What becomes of an inode that loses its links, and what a command is done with.
use Rattle.std.proofs.Common.{◌≡◌, ◌<◌, ◌≤◌, ◌-◌, ℕ, Bool, true, false, not, ◌&&◌, eqb, List, Option, inl, inr, ◌⊎◌, refl, sym, ap, ap₂, ◌∙◌, subst, arith, IsFalse, IsTrue, ne_eqb, eq-eqb}
use Rattle.std.proofs.lemmas.Bool.{and_from, and_left, both_ways, not_from_false}
use Rattle.std.specs.List.{All}
use Rattle.std.proofs.lemmas.List.Elements.{All-nil}
use Rattle.model.specs.Layout.{Geometry, block_count}
use Rattle.model.specs.View.{View}
use Rattle.ordering.specs.Cuts.{Cell, Pending, users_view}
use Rattle.machine.specs.Command.{Command, Done}
use Rattle.machine.specs.State.{Plan, State, is_open}
use Rattle.plans_naming.specs.Unlink.{StaysWith}
use Rattle.courses.specs.Done.{IsDoneBy}
use Rattle.live_states.specs.Drafts.{Draft}
use Rattle.live_states.specs.Holdings.{Holdings, going_on, held_by, is_kept_by, opened_by, plan_by}
use Rattle.live_plans.specs.declared.locating.Found.{Found}
use Rattle.live_removals.specs.Links.{Goes, LosesLinks, Stays}
use Rattle.live_removals.specs.Removed.{Leaves}
use Rattle.live_removals.proofs.Given.{gone_below_count}

pub stays_linked : (old : State) (i links fewer : ℕ) → fewer < links → StaysWith old i (links - fewer)
stays_linked old i links fewer more = and_left (eqb (links - fewer) 0) (not (is_open old i)) (ne_eqb (links - fewer) 0 (λ e. omega (arith, e, more)))

-- and so does an open one
pub stays_open : (old : State) (i links : ℕ) → IsTrue (is_open old i) → StaysWith old i links
stays_open old i links open_now = ap (λ b. eqb links 0 && not b) open_now ∙ and_right_false (eqb links 0)
  where
    and_right_false : (b : Bool) → (b && false) ≡ false
    and_right_false true = refl
    and_right_false false = refl

-- an inode that is not open goes where it has no more links than it loses
pub goes_closed : (old : State) (i links fewer : ℕ) → links ≤ fewer → IsFalse (is_open old i) → StaysWith old i (links - fewer) ⊎ ((links ≡ fewer) × IsFalse (is_open old i))
    → (links ≡ fewer) × IsFalse (is_open old i)
goes_closed old i links fewer few closed (inl stays) =
    absurd (both_ways (eqb (links - fewer) 0 && not (is_open old i)) stays
    (and_from (eqb (links - fewer) 0) (not (is_open old i)) (eq-eqb (links - fewer) 0 (omega (arith, few))) (not_from_false (is_open old i) closed)))
goes_closed old i links fewer few closed (inr goes) = goes

module _ (geo : Geometry) (view : View) (holdings : Holdings) (n fewer block : ℕ) (old new : Draft) (holds : List ℕ) where
  pub loses_geometry : LosesLinks geo view holdings n fewer block old new holds → new.geometry ≡ old.geometry
  loses_geometry (Stays more goes none) = goes.geometry
  loses_geometry (Goes few goes held) = goes.geometry

  loses_file : LosesLinks geo view holdings n fewer block old new holds → new.file ≡ old.file
  loses_file (Stays more goes none) = goes.file
  loses_file (Goes few goes held) = goes.file

  -- what is held is blocks of the volume
  pub loses_blocks : LosesLinks geo view holdings n fewer block old new holds → All (λ a. a < block_count geo) holds
  loses_blocks (Stays more goes none) = subst (λ (bs : List ℕ). All (λ a. a < block_count geo) bs) (sym none) (All-nil (λ a. a < block_count geo))
  loses_blocks (Goes few goes held) = subst (λ (bs : List ℕ). All (λ a. a < block_count geo) bs) (sym held) (gone_below_count (is_kept_by holdings) geo view n 0)

module _ (geo : Geometry) (view : View) (holdings : Holdings) (found : Found) (fewer : ℕ) (after : List Cell) (draft : Draft) (holds : List ℕ) (leaves : Leaves geo view holdings found fewer after draft holds) where
  pub leaves_geometry : draft.geometry ≡ geo
  leaves_geometry = loses_geometry geo view holdings found.number fewer found.block leaves.emptied draft holds leaves.loses ∙ leaves.empties.geometry

  pub leaves_file : draft.file ≡ found.number
  leaves_file = loses_file geo view holdings found.number fewer found.block leaves.emptied draft holds leaves.loses ∙ leaves.empties.file

  pub leaves_blocks : All (λ a. a < block_count geo) holds
  leaves_blocks = loses_blocks geo view holdings found.number fewer found.block leaves.emptied draft holds leaves.loses

-- the state then, with what is open and held then, and the repairs that were installed
pub goes_on : (old : State) (holdings' : Holdings) (view : View) (opened : ℕ → Option ℕ) (held : ℕ → Bool) → opened ≡ opened_by holdings' → held ≡ held_by holdings' → old.plan ≡ plan_by holdings'
    → record old { view = view; opened = opened; held = held } ≡ going_on old holdings' view
goes_on old holdings' view opened held o h p =
    ap₂ (λ (x : ℕ → Option ℕ) (y : ℕ → Bool). record old { view = view; opened = x; held = y }) o h
    ∙ ap (λ (z : Option Plan). record old { view = view; opened = opened_by holdings'; held = held_by holdings'; plan = z }) p

-- what is done so is done with other words for the same
pub done_as : (geo : Geometry) (disk : View) (q : List Pending) (old : State) (safe : ℕ → Bool) (command : Command) (file file' : ℕ) (plan plan' : List Pending) (opened : ℕ → Option ℕ) (held : ℕ → Bool) (safe' safe'' : ℕ → Bool)
    (holdings' : Holdings) → file ≡ file' → plan ≡ plan' → opened ≡ opened_by holdings' → held ≡ held_by holdings' → old.plan ≡ plan_by holdings' → safe' ≡ safe''
    → IsDoneBy geo disk q old safe command Done file plan (record old { view = users_view disk plan; opened = opened; held = held }) safe'
    → IsDoneBy geo disk q old safe command Done file' plan' (going_on old holdings' (users_view disk plan')) safe''
done_as geo disk q old safe command file file' plan plan' opened held safe' safe'' holdings' same_file same_plan same_opened same_held same_repairs same_safe done =
    subst (λ x. IsDoneBy geo disk q old safe command Done file' plan' (going_on old holdings' (users_view disk plan')) x) same_safe
    (subst (λ f. IsDoneBy geo disk q old safe command Done f plan' (going_on old holdings' (users_view disk plan')) safe') same_file
    (subst (λ p. IsDoneBy geo disk q old safe command Done file p (going_on old holdings' (users_view disk p)) safe') same_plan
    (subst (λ new. IsDoneBy geo disk q old safe command Done file plan new safe') (goes_on old holdings' (users_view disk plan) opened held same_opened same_held same_repairs) done)))
