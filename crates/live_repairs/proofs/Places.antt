-- The repair of a place, and the table that notes which ones are done.
use Rattle.std.proofs.Common.{◌≡◌, ◌<◌, ℕ, Bool, true, false, List, [], ◌∷◌, Option, Some, None, length, inl, inr, sym, subst, ap, ◌∙◌, set as slice_set, get_or-set_same, get_or-set_other, slice_index_or}
use mathlib.Core.Path.{fun_ext}
use Rattle.std.specs.Option.{option_map}
use Rattle.std.proofs.lemmas.Bool.{cases_eq, lt-leb}
use Rattle.std.proofs.lemmas.List.Elements.{All-get_or}
use Rattle.std.proofs.lemmas.Option.{get_or_from_slice_get, slice_get_within}
use Rattle.findings.specs.declared.repair.Repair.{Repair}
use Rattle.layout.specs.declared.refusal.Refusal.TheVariants.{AlreadyDone, BadIndex}
use Rattle.model.specs.Cells.{put_at}
use Rattle.model.specs.Layout.{Geometry}
use Rattle.model.proofs.Places.{put_here, put_there}
use Rattle.machine.specs.Below.{first_of, when}
use Rattle.machine.specs.Causes.{Accepts}
use Rattle.machine.specs.Command.{RepairAt}
use Rattle.machine.specs.State.{Plan, State}
use Rattle.live_states.specs.Holdings.{Has, Holdings, Repairs, plan_by, plan_of, with_done, with_held}
use Rattle.live_states.specs.Snapshots.{AreRepairsOf, IsRepairOf, IsToDo}
use Rattle.live_holdings.proofs.Repairing.{refused_with}
use Rattle.live_holdings.specs.Left.{why_not_left}

-- a table of tests with another entry
mark_set : (l : List Bool) (k : ℕ) (b : Bool) → k < length l → (λ j. slice_index_or (slice_set l k b) j false) ≡ put_at (λ j. slice_index_or l j false) k b
mark_set l k b low = fun_ext (λ j. elim (cases_eq j k) [
  | inl e ↦ ap (λ (x : ℕ). slice_index_or (slice_set l k b) x false) e ∙ get_or-set_same l k b false low ∙ sym (put_here (λ x. slice_index_or l x false) k b) ∙ ap (put_at (λ x. slice_index_or l x false) k b) (sym e)
  | inr d ↦ get_or-set_other l k j b false d ∙ sym (put_there (λ x. slice_index_or l x false) k j b d)
])

abbrev plan_with : List Repair → (ℕ → Bool) → Plan
plan_with repairs done = record { repairs = repairs; done = done }

module _ (holdings : Holdings) (k : ℕ) (r : Repair) (to_do : IsToDo holdings k r) where
  in_list : k < length to_do.repairs.list
  in_list = slice_get_within to_do.repairs.list k r to_do.there

  not_refused : why_not_left to_do.repairs k ≡ None
  not_refused =
      ap (λ b. first_of (when b BadIndex ∷ when (slice_index_or to_do.repairs.done k false) AlreadyDone ∷ [])) (lt-leb (length to_do.repairs.list) k in_list)
      ∙ ap (λ b. first_of (when false BadIndex ∷ when b AlreadyDone ∷ [])) to_do.undone

  -- nothing refuses it
  pub repair_accepted : (geo : Geometry) (old : State) → Has holdings old → Accepts geo old (RepairAt k)
  repair_accepted geo old has = (refused_with geo holdings k old has to_do.repairs to_do.installed ∙ not_refused, tt)

  -- it is a repair of the volume
  pub of_volume : (geo : Geometry) → AreRepairsOf geo holdings.repairs → IsRepairOf geo r
  of_volume geo are =
      let all = (subst (λ o. AreRepairsOf geo o) to_do.installed are).0 in
      subst (λ x. IsRepairOf geo x) (get_or_from_slice_get to_do.repairs.list k r r to_do.there) (All-get_or (IsRepairOf geo) to_do.repairs.list k r in_list all)

  -- the state has it
  pub planned_there : (old : State) → Has holdings old → old.plan ≡ Some (plan_of to_do.repairs)
  planned_there old has = has.plan ∙ ap (option_map plan_of) to_do.installed

  -- and then it is done
  pub done_then : (holds : List ℕ) → Some (record (plan_of to_do.repairs) { done = put_at (plan_of to_do.repairs).done k true }) ≡ plan_by (with_done (with_held holdings holds) k)
  done_then holds =
      ap (λ (d : ℕ → Bool). Some (plan_with to_do.repairs.list d)) (sym (mark_set to_do.repairs.done k true to_do.within))
      ∙ ap (λ (o : Option Repairs). option_map plan_of (option_map (λ (repairs : Repairs). record repairs { done = slice_set repairs.done k true }) o)) (sym to_do.installed)
