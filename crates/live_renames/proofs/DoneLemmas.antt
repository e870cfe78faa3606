-- A rename is carried out by its updates.
use Rattle.std.proofs.Common.{◌≡◌, ◌≢◌, ◌/◌, ℕ, Bool, List, [], sym, ap, ap₂, ◌∙◌, subst, Some}
use Rattle.std.specs.Prelude.{unwrap_or}
use Rattle.std.specs.Result.{result_unwrap_or}
use Rattle.model.specs.Layout.{Geometry, root}
use Rattle.model.specs.View.{View}
use Rattle.ordering.specs.Cuts.{Cell, Pending, users_view}
use Rattle.frozen.specs.Kept.{Kept}
use Rattle.machine.specs.Cells.{IsEntryFor, block_of}
use Rattle.machine.specs.Command.{Rename, Done}
use Rattle.machine.specs.Paths.{holder, last_part, name_in, number_at, parts_of, slot_at, slot_of, target, walk}
use Rattle.machine.specs.State.{State}
use Rattle.metadata.specs.Shown.{Shows}
use Rattle.plans_data.specs.Now.{now}
use Rattle.plans_naming.specs.Plans.{entry_block, rename_plan}
use Rattle.plans_naming.specs.Rename.{renaming}
use Rattle.courses.specs.After.{AreOtherBlocks}
use Rattle.courses.specs.Done.{IsDoneBy, RenamesInSlot}
use Rattle.live_states.specs.Drafts.{Draft, over}
use Rattle.live_renames.specs.declared.renaming.Ends.{Ends}
use Rattle.live_renames.specs.Refused.{AreEnds}
use Rattle.live_renames.specs.Renamed.{IsRenamed}

module _ (geo : Geometry) (p q : List ℕ) (ps qs : List (List ℕ)) (e : parts_of p ≡ Some ps) (f : parts_of q ≡ Some qs) (ends : Ends) (view : View) (are : AreEnds geo view ps qs ends) where
  -- ---- what the ends are
  pub holder_from : holder geo view p ≡ ends.found.directory
  holder_from = ap (λ o. result_unwrap_or (walk geo view root (unwrap_or o [])) 0) e ∙ ap (λ r. result_unwrap_or r 0) are.found.directory

  pub holder_to : holder geo view q ≡ ends.directory
  holder_to = ap (λ o. result_unwrap_or (walk geo view root (unwrap_or o [])) 0) f ∙ ap (λ r. result_unwrap_or r 0) are.directory

  pub number_is : number_at geo view p ≡ ends.found.number
  number_is = ap (λ o. result_unwrap_or (target geo view (unwrap_or o [])) 0) e ∙ ap (λ r. result_unwrap_or r 0) are.found.number

  pub slot_is : slot_at geo view p ≡ ends.found.slot
  slot_is =
      ap₂ (λ d o. unwrap_or (slot_of geo view d (last_part (unwrap_or o []))) 0) holder_from e
      ∙ ap (λ o. unwrap_or o 0) are.found.slot

  pub block_is : entry_block geo view p ≡ ends.found.block
  block_is = ap₂ (λ d s. block_of geo view d (s / 16)) holder_from slot_is ∙ ap (λ o. unwrap_or o 0) are.found.block

  pub name_is : name_in q ≡ last_part qs
  name_is = ap (λ o. last_part (unwrap_or o [])) f

  pub says_it : (entry : List ℕ) → IsEntryFor ends.found.number (last_part qs) entry → IsEntryFor (number_at geo view p) (name_in q) entry
  says_it entry says =
      subst (λ n. IsEntryFor n (name_in q) entry) (sym number_is) (subst (λ n. IsEntryFor ends.found.number n entry) (sym name_is) says)

  pub apart_there : (ends.found.directory ≡ ends.directory → ⊥) → holder geo view p ≢ holder geo view q
  apart_there apart = λ same. apart (sym holder_from ∙ same ∙ holder_to)

  -- ---- the updates
  pub renames_it : (entry : List ℕ) (after : List Cell) (pending : List Pending)
      → renaming ends.found.block (view.bytes ends.found.block) ends.found.slot entry after pending ≡ rename_plan geo view p entry after pending
  renames_it entry after pending = ap₂ (λ b s. renaming b (view.bytes b) s entry after pending) (sym block_is) (sym slot_is)

-- In one directory.
module _ (kept : Kept) (p q : List ℕ) (ps qs : List (List ℕ)) (e : parts_of p ≡ Some ps) (f : parts_of q ≡ Some qs) (ends : Ends) (disk : View) (pending : List Pending) (old : State) (safe : ℕ → Bool)
    (are : AreEnds kept.geometry (users_view disk pending) ps qs ends) (shows : Shows kept (users_view disk pending)) (draft : Draft) where
  abbrev geo : Geometry
  geo = kept.geometry

  abbrev view : View
  view = users_view disk pending

  abbrev IsDone : ℕ → List Pending → Type 0
  IsDone file plan = IsDoneBy geo disk pending old safe (Rename p q) Done file plan (now disk plan old) safe

  done_with : (file : ℕ) (plan : List Pending) → draft.file ≡ file → over pending draft.updates ≡ plan → IsDone file plan → IsDone draft.file (over pending draft.updates)
  done_with file plan file_is plan_is done = subst (λ n. IsDone n (over pending draft.updates)) (sym file_is) (subst (λ u. IsDone file u) (sym plan_is) done)

  file_is : draft.file ≡ ends.found.number → draft.file ≡ number_at geo view p
  file_is h = h ∙ sym (number_is geo p q ps qs e f ends view are)

  pub renamed_done : ends.found.directory ≡ ends.directory → IsRenamed kept ends.found (last_part qs) draft → IsDone draft.file (over pending draft.updates)
  renamed_done same is =
      let from = holder_from geo p q ps qs e f ends view are in
      let others : AreOtherBlocks geo view (holder geo view p) (entry_block geo view p) is.after =
      subst (λ d. AreOtherBlocks geo view d (entry_block geo view p) is.after) (sym from)
      (subst (λ b. AreOtherBlocks geo view ends.found.directory b is.after) (sym (block_is geo p q ps qs e f ends view are)) (is.others_first view shows)) in
      done_with (number_at geo view p) (rename_plan geo view p is.entry is.after pending) (file_is is.file)
      (is.pending view shows pending ∙ renames_it geo p q ps qs e f ends view are is.entry is.after pending)
      (RenamesInSlot p q is.entry is.after (from ∙ same ∙ sym (holder_to geo p q ps qs e f ends view are)) (says_it geo p q ps qs e f ends view are is.entry is.says) others)
