-- The updates of the removal of a directory carry it out.
use Rattle.std.proofs.Common.{◌≡◌, ◌<◌, ◌≤◌, ◌-◌, ◌⊎◌, ℕ, Bool, List, ◌∷◌, [], length, Some, inl, refl, sym, ap, ◌∙◌, subst, arith, IsFalse}
use Rattle.std.proofs.lemmas.Bool.{both_ways, false_from_ne_true}
use Rattle.model.specs.Layout.{Geometry, block_count}
use Rattle.model.specs.Uses.{is_directory_at}
use Rattle.model.specs.Rules.{ObeysRules}
use Rattle.model.specs.View.{Inode, View, free_inode}
use Rattle.model.proofs.Finite.{entries_exist}
use Rattle.ordering.specs.Cuts.{Block, Cell, Pending, users_view}
use Rattle.machine.specs.Causes.{Accepts, causes}
use Rattle.machine.specs.Cells.{block_of}
use Rattle.machine.specs.Command.{Done, Rmdir}
use Rattle.machine.specs.Paths.{holder, name_in, number_at, parts_of, slot_at}
use Rattle.machine.specs.State.{State, is_open}
use Rattle.machine.proofs.Counting.{reachable_counted}
use Rattle.machine.proofs.Renaming.{place_at}
use Rattle.machine.proofs.Tests.{open_tested}
use Rattle.machine.proofs.Walks.{quiet}
use Rattle.plans_data.specs.Carried.{Stands}
use Rattle.plans_data.specs.Freeing.{freeing}
use Rattle.plans_data.specs.Now.{now}
use Rattle.plans_naming.specs.Entries.{HasBlocks, no_entry, slot_written}
use Rattle.plans_naming.specs.Plans.{entry_block, remove_plan, remove_plan_last}
use Rattle.plans_naming.specs.RemoveDirectory.{CanRemove, removing, removing_name}
use Rattle.plans_naming.specs.Unlink.{StaysWith, lowered}
use Rattle.plans_naming.proofs.AcceptedCommands.{accepted_remove}
use Rattle.courses.specs.After.{AreBlocks}
use Rattle.courses.specs.Done.{IsDoneBy, RemovesDirectory, RemovesName}
use Rattle.frozen.specs.Kept.{Kept, KeepsMetadata, frozen_view}
use Rattle.metadata.specs.Shown.{Shows}
use Rattle.metadata.proofs.ShownLemmas.{shows_metadata}
use Rattle.live_paths.specs.Shown.{IsShownBy}
use Rattle.live_states.specs.Drafts.{Draft, over}
use Rattle.live_states.specs.Holdings.{Has, Holdings, going_on, held_by, with_held}
use Rattle.live_states.specs.Planned.{IsOfVolume, IsPlannedWith, safe_after}
use Rattle.live_plans.specs.declared.locating.Found.{Found}
use Rattle.live_removals.specs.Blocks.{freed, held_back}
use Rattle.live_removals.specs.Entries.{IsDirectoryAt}
use Rattle.live_removals.specs.Links.{Goes, LosesLinks, Stays}
use Rattle.live_removals.specs.Removed.{Removed}
use Rattle.live_removals.proofs.Given.{free_is_cut, freed_are_given_up, held_now}
use Rattle.live_removals.proofs.Leaving.{done_as, goes_closed, leaves_file, leaves_geometry, stays_linked}
use Rattle.live_removals.proofs.Naming.{holder_is}
use Rattle.live_removals.proofs.Refusals.{directory_accepted, rmdir_refusal}
use Rattle.live_removals.proofs.Volumes.{OnVolume, on_volume}

-- a directory that loses its entry stays, or goes
abbrev pub StaysOrGoes : Type 0
StaysOrGoes = (geo : Geometry) (old : State) → ObeysRules geo old.view → (i b d s block : ℕ) (name : List ℕ) (after : List Cell) → CanRemove geo old.view i b d s block name after
    → StaysWith old i ((old.view.inode i).links - 2) ⊎ (((old.view.inode i).links ≡ 2) × IsFalse (is_open old i))

module _ (decided : StaysOrGoes) (kept : Kept) (holdings : Holdings) (path : List ℕ) (found : Found) (disk : View) (q : List Pending) (old : State) (on : OnVolume kept path found disk q old) where
  abbrev view : View
  view = users_view disk q

  -- the plan by the path
  staying : (after : List Cell) → remove_plan kept.geometry view path after q
      ≡ lowered found.directory (view.inode found.directory) 1 found.block (lowered found.number (view.inode found.number) 2 found.block (slot_written found.block (view.bytes found.block) found.slot no_entry after ∷ q))
  staying after =
      ap (λ n. removing_name n (view.inode n) (holder kept.geometry view path) (view.inode (holder kept.geometry view path)) (entry_block kept.geometry view path) (view.bytes (entry_block kept.geometry view path)) (slot_at kept.geometry view path) after q) on.number
      ∙ ap (λ d. removing_name found.number (view.inode found.number) d (view.inode d) (entry_block kept.geometry view path) (view.bytes (entry_block kept.geometry view path)) (slot_at kept.geometry view path) after q) on.parent
      ∙ ap (λ b. removing_name found.number (view.inode found.number) found.directory (view.inode found.directory) b (view.bytes b) (slot_at kept.geometry view path) after q) on.block
      ∙ ap (λ s. removing_name found.number (view.inode found.number) found.directory (view.inode found.directory) found.block (view.bytes found.block) s after q) on.slot

  going : (after : List Cell) → remove_plan_last kept.geometry view path (freed kept.geometry view holdings (number_at kept.geometry view path) 0) after q
      ≡ lowered found.directory (view.inode found.directory) 1 found.block (freeing found.number (freed kept.geometry view holdings found.number 0) (Block found.block ∷ []) (slot_written found.block (view.bytes found.block) found.slot no_entry after ∷ q))
  going after =
      ap (λ n. removing n (freed kept.geometry view holdings n 0) (holder kept.geometry view path) (view.inode (holder kept.geometry view path)) (entry_block kept.geometry view path) (view.bytes (entry_block kept.geometry view path)) (slot_at kept.geometry view path) after q) on.number
      ∙ ap (λ d. removing found.number (freed kept.geometry view holdings found.number 0) d (view.inode d) (entry_block kept.geometry view path) (view.bytes (entry_block kept.geometry view path)) (slot_at kept.geometry view path) after q) on.parent
      ∙ ap (λ b. removing found.number (freed kept.geometry view holdings found.number 0) found.directory (view.inode found.directory) b (view.bytes b) (slot_at kept.geometry view path) after q) on.block
      ∙ ap (λ s. removing found.number (freed kept.geometry view holdings found.number 0) found.directory (view.inode found.directory) found.block (view.bytes found.block) s after q) on.slot

  module _ (safe : ℕ → Bool) (stands : Stands kept.geometry disk q old safe) (has : Has holdings old) (wide : block_count kept.geometry ≤ length holdings.held) (accepts : Accepts kept.geometry (now disk q old) (Rmdir path))
      (draft : Draft) (holds : List ℕ) (removed : Removed kept.geometry view holdings found draft holds) where
    file : number_at kept.geometry view path ≡ draft.file
    file = on.number ∙ sym (removed.lowers.file ∙ leaves_file kept.geometry view holdings found 2 removed.after removed.left holds removed.leaves)

    own : AreBlocks kept.geometry view (number_at kept.geometry view path) removed.after
    own = subst (λ n. AreBlocks kept.geometry view n removed.after) (sym on.number) removed.own_first

    -- a directory is not open
    closed : (after : List Cell) → HasBlocks kept.geometry view (number_at kept.geometry view path) after → IsFalse (is_open old (number_at kept.geometry view path))
    closed after all =
        let n = number_at kept.geometry view path in
        let st = now disk q old in
        let can = accepted_remove kept.geometry st on.balance stands.geometry path accepts after all in
        false_from_ne_true (is_open old n) (λ t. both_ways (is_directory_at kept.geometry view n) (on.balance.open_file n (open_tested st n t)).1 can.directory)

    -- the parent's record comes last
    before : (p : List Pending) → over q removed.left.updates ≡ p → over q draft.updates ≡ lowered found.directory (view.inode found.directory) 1 found.block p
    before p e = removed.lowers.pending q ∙ ap (lowered found.directory (view.inode found.directory) 1 found.block) e

    done_by : LosesLinks kept.geometry view holdings found.number 2 found.block removed.leaves.emptied removed.left holds
        → IsDoneBy kept.geometry disk q old safe (Rmdir path) Done draft.file (over q draft.updates) (going_on old (with_held holdings holds) (users_view disk (over q draft.updates))) safe
    done_by (Stays more goes none) =
        let n = number_at kept.geometry view path in
        let after = removed.after in
        done_as kept.geometry disk q old safe (Rmdir path) n draft.file (remove_plan kept.geometry view path after q) (over q draft.updates) old.opened old.held safe safe (with_held holdings holds) file
        (staying after ∙ sym (before _ (goes.pending q ∙ ap (lowered found.number (view.inode found.number) 2 found.block) (removed.leaves.empties.pending q))))
        has.opened (has.held ∙ ap (λ (bs : List ℕ). held_by (with_held holdings bs)) (sym none)) has.plan refl
        (RemovesName path after own (stays_linked old n (view.inode n).links 2 (subst (λ m. 2 < (view.inode m).links) (sym on.number) more)))
    done_by (Goes few goes held) =
        let n = number_at kept.geometry view path in
        let after = removed.after in
        let st = now disk q old in
        let st_has : Has holdings st = record { opened = has.opened; held = has.held; snapshots = has.snapshots; plan = has.plan } in
        let can = accepted_remove kept.geometry st on.balance stands.geometry path accepts after own.needs in
        let last = goes_closed st n (view.inode n).links 2 (subst (λ m. (view.inode m).links ≤ 2) (sym on.number) few) (closed after own.needs)
        (decided kept.geometry st on.balance.rules n (block_of kept.geometry view n 0) (holder kept.geometry view path) (slot_at kept.geometry view path) (entry_block kept.geometry view path) (name_in path) after can) in
        let cut = free_is_cut kept.geometry (view.inode n) in
        done_as kept.geometry disk q old safe (Rmdir path) n draft.file (remove_plan_last kept.geometry view path (freed kept.geometry view holdings n 0) after q) (over q draft.updates) old.opened _ safe safe (with_held holdings holds) file
        (going after ∙ sym (before _ (goes.pending q ∙ ap (freeing found.number (freed kept.geometry view holdings found.number 0) (Block found.block ∷ [])) (removed.leaves.empties.pending q))))
        has.opened
        (held_now kept.geometry st holdings st_has n free_inode 0 cut on.balance.rules wide holdings refl
        ∙ ap (λ (bs : List ℕ). held_by (with_held holdings bs)) (ap (λ m. held_back kept.geometry view holdings m 0) on.number ∙ sym held))
        has.plan
        refl
        (RemovesDirectory path (freed kept.geometry view holdings n 0) after own last.0 (record { closed = last.1; given_up = freed_are_given_up kept.geometry st holdings st_has n free_inode 0 cut }))

    pub rmdir_done : IsDoneBy kept.geometry disk q old safe (Rmdir path) Done draft.file (over q draft.updates) (going_on old (with_held holdings holds) (users_view disk (over q draft.updates)))
        (safe_after kept.geometry old.view (Rmdir path) safe)
    rmdir_done = done_by removed.leaves.loses

module _ (kept : Kept) (path : List ℕ) (ps : List (List ℕ)) (found : Found) (keeps : KeepsMetadata kept) (volume : IsOfVolume kept) (is : parts_of path ≡ Some ps)
    (at : (view : View) → IsShownBy kept view → IsDirectoryAt kept.geometry view ps found) where
  accepted : (old : State) → Shows kept old.view → Accepts kept.geometry old (Rmdir path)
  accepted old shows = (rmdir_refusal kept.geometry old path ps is ∙ directory_accepted kept.geometry old.view ps found (at old.view (shows_metadata kept old.view keeps shows)), tt)

  pub rmdir_planned : StaysOrGoes → (draft : Draft) (holdings : Holdings) → block_count kept.geometry ≤ length holdings.held → (holds : List ℕ) → ((view : View) → Shows kept view → Removed kept.geometry view holdings found draft holds)
      → IsPlannedWith kept holdings [] (Rmdir path) Done draft (with_held holdings holds)
  rmdir_planned decided draft holdings wide holds removed = record {
    geometry = let r = removed volume.old.view volume.shows in r.lowers.geometry ∙ leaves_geometry kept.geometry volume.old.view holdings found 2 r.after r.left holds r.leaves;
    snapshots = refl;
    accepted = λ old shows has. accepted old shows;
    done = λ disk q old safe stands shows has sees.
        let on = on_volume kept path ps found keeps is (λ view shown. (at view shown).at) disk q old safe stands shows in
        rmdir_done decided kept holdings path found disk q old on safe stands has wide (accepted (now disk q old) on.seen) draft holds (removed (users_view disk q) on.seen);
  }

  -- the directory that the entry stands in has a link
  pub parent_linked : 1 ≤ ((frozen_view kept).inode found.directory).links
  unfolding causes
  parent_linked =
      let v = volume.old.view in
      let none = quiet (causes kept.geometry volume.old (Rmdir path)) (accepted volume.old volume.shows).0 in
      let place = place_at kept.geometry v path none.0 none.1.0 none.1.1.0 in
      let d = holder kept.geometry v path in
      let e = entries_exist kept.geometry v d in
      let rules = volume.stands.balance.rules in
      let linked : 1 ≤ (v.inode d).links = omega (arith, rules.rule8 d e.0 (inl place.entry.reachable) e.1, reachable_counted kept.geometry v rules d e.0 (inl place.entry.reachable) e.1) in
      subst (λ (i : Inode). 1 ≤ i.links) (sym (volume.shows.inode found.directory))
      (subst (λ j. 1 ≤ (v.inode j).links) (holder_is kept.geometry v path ps found is (at v (shows_metadata kept v keeps volume.shows)).at) linked)
