-- What users see of a file that is created in an empty slot.
use Rattle.std.proofs.Common.{◌≡◌, ℕ, true, List, sym, refl, subst}
use Rattle.model.specs.Layout.{Geometry}
use Rattle.model.specs.View.{View}
use Rattle.model.specs.Cells.{SetInode, SetNumber, SetBytes, updated}
use Rattle.model.specs.Slots.{Empty}
use Rattle.model.specs.Rules.{ObeysRules}
use Rattle.model.proofs.SlotLemmas.{reachable_directory}
use Rattle.ordering.specs.Cuts.{Cell, Pending, users_view}
use Rattle.machine.specs.State.{State}
use Rattle.machine.specs.Cells.{with_slot}
use Rattle.machine.specs.Paths.{holder, name_in}
use Rattle.machine.specs.Effects.{file_with, Creates}
use Rattle.plans_naming.specs.Create.{CanCreate, creating}
use Rattle.plans_naming.proofs.Folders.{stands_there}
use Rattle.plans_naming.proofs.Births.{recorded, born_folder}
use Rattle.plans_naming.proofs.EntryEffects.{enters_in_slot}

module _ (geo : Geometry) (old : State) (path words : List ℕ) (n s block : ℕ) (entry : List ℕ) (after : List Cell) (rules : ObeysRules geo old.view)
    (can : CanCreate geo old.view n (holder geo old.view path) s block (name_in path) entry after) where
  abbrev mid : View
  mid = recorded geo old.view rules n can.number can.unmarked (file_with words)

  creates : Creates geo old path words n (record old { view = updated mid (SetBytes block (with_slot (old.view.bytes block) s entry)) })
  creates =
      let d = holder geo old.view path in
      let same = born_folder geo old.view rules n can.number can.unmarked (file_with words) d (reachable_directory geo old.view d can.place.reachable) in
      record {
        free = record { number = can.number; unmarked = can.unmarked };
        view = updated mid (SetBytes block (with_slot (old.view.bytes block) s entry));
        enters = enters_in_slot geo mid d s block n (name_in path) entry (stands_there geo old.view mid d same s block Empty can.place) can.says;
        whole = refl;
      }

  pub creating_creates : (disk : View) (q : List Pending) → users_view disk q ≡ old.view
      → Creates geo old path words n (record old { view = users_view disk (creating n words block (old.view.bytes block) s entry after q) })
  creating_creates disk q same =
      subst (λ (v : View). Creates geo old path words n (record old { view = updated (updated (updated v (SetNumber n true)) (SetInode n (file_with words))) (SetBytes block (with_slot (old.view.bytes block) s entry)) })) (sym same) creates
