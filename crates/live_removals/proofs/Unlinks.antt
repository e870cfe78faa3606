-- The updates of an unlink carry it out.
use Rattle.std.proofs.Common.{◌≡◌, ◌<◌, ◌≤◌, ◌-◌, ◌⊎◌, ℕ, Bool, true, false, List, ◌∷◌, [], length, Some, refl, sym, ap, ◌∙◌, subst, arith, IsFalse, IsTrue}
use Rattle.model.specs.Layout.{Geometry, block_count}
use Rattle.model.specs.Rules.{ObeysRules}
use Rattle.model.specs.View.{Inode, View, free_inode}
use Rattle.model.proofs.Finite.{entries_exist}
use Rattle.ordering.specs.Cuts.{Block, Pending, users_view}
use Rattle.machine.specs.Causes.{Accepts}
use Rattle.machine.specs.Command.{Done, Unlink}
use Rattle.machine.specs.Paths.{holder, name_in, number_at, parts_of, slot_at}
use Rattle.machine.specs.State.{State, is_open}
use Rattle.machine.proofs.Counting.{reachable_counted}
use Rattle.machine.proofs.Walks.{parts_good, target_reachable}
use Rattle.plans_data.specs.Carried.{Stands}
use Rattle.plans_data.specs.Freeing.{freeing}
use Rattle.plans_data.specs.Now.{now}
use Rattle.plans_naming.specs.Entries.{no_entry, slot_written}
use Rattle.plans_naming.specs.Plans.{entry_block, unlink_plan, unlink_plan_last}
use Rattle.plans_naming.specs.Unlink.{CanUnlink, StaysWith, lowered, safe_but, unlinking, unlinking_last}
use Rattle.plans_naming.proofs.AcceptedCommands.{accepted_unlink}
use Rattle.courses.specs.Done.{IsDoneBy, UnlinksFile, UnlinksName}
use Rattle.frozen.specs.Kept.{Kept, KeepsMetadata, frozen_view}
use Rattle.metadata.specs.Shown.{Shows}
use Rattle.metadata.proofs.ShownLemmas.{shows_metadata}
use Rattle.live_paths.specs.Shown.{IsShownBy}
use Rattle.live_states.specs.Drafts.{Draft, over}
use Rattle.live_states.specs.Holdings.{Has, Holdings, going_on, held_by, is_open_by, with_held}
use Rattle.live_states.specs.Planned.{IsOfVolume, IsPlannedWith, safe_after}
use Rattle.live_states.proofs.Standing.{same_open}
use Rattle.live_plans.specs.declared.locating.Found.{Found}
use Rattle.live_removals.specs.Blocks.{freed, held_back}
use Rattle.live_removals.specs.Entries.{IsFileAt}
use Rattle.live_removals.specs.Links.{Goes, LosesLinks, Stays}
use Rattle.live_removals.specs.Removed.{Leaves, Unlinked, Unnamed}
use Rattle.live_removals.proofs.Given.{free_is_cut, freed_are_given_up, held_now}
use Rattle.live_removals.proofs.Leaving.{done_as, goes_closed, leaves_file, leaves_geometry, stays_linked, stays_open}
use Rattle.live_removals.proofs.Refusals.{file_accepted, unlink_refusal}
use Rattle.live_removals.proofs.Volumes.{OnVolume, on_volume}

-- a file that loses a name stays, or goes
abbrev pub StaysOrGoes : Type 0
StaysOrGoes = (geo : Geometry) (old : State) → ObeysRules geo old.view → (i d s block : ℕ) (name : List ℕ) → CanUnlink geo old.view i d s block name
    → StaysWith old i ((old.view.inode i).links - 1) ⊎ (((old.view.inode i).links ≡ 1) × IsFalse (is_open old i))

module _ (decided : StaysOrGoes) (kept : Kept) (holdings : Holdings) (path : List ℕ) (found : Found) (disk : View) (q : List Pending) (old : State) (on : OnVolume kept path found disk q old) where
  abbrev view : View
  view = users_view disk q

  -- the plan by the path
  staying : unlink_plan kept.geometry view path q ≡ lowered found.number (view.inode found.number) 1 found.block (slot_written found.block (view.bytes found.block) found.slot no_entry [] ∷ q)
  staying =
      ap (λ n. unlinking n (view.inode n) (entry_block kept.geometry view path) (view.bytes (entry_block kept.geometry view path)) (slot_at kept.geometry view path) q) on.number
      ∙ ap (λ b. unlinking found.number (view.inode found.number) b (view.bytes b) (slot_at kept.geometry view path) q) on.block
      ∙ ap (λ s. unlinking found.number (view.inode found.number) found.block (view.bytes found.block) s q) on.slot

  going : unlink_plan_last kept.geometry view path (freed kept.geometry view holdings (number_at kept.geometry view path) 0) q
      ≡ freeing found.number (freed kept.geometry view holdings found.number 0) (Block found.block ∷ []) (slot_written found.block (view.bytes found.block) found.slot no_entry [] ∷ q)
  going =
      ap (λ n. unlinking_last n (freed kept.geometry view holdings n 0) (entry_block kept.geometry view path) (view.bytes (entry_block kept.geometry view path)) (slot_at kept.geometry view path) q) on.number
      ∙ ap (λ b. unlinking_last found.number (freed kept.geometry view holdings found.number 0) b (view.bytes b) (slot_at kept.geometry view path) q) on.block
      ∙ ap (λ s. unlinking_last found.number (freed kept.geometry view holdings found.number 0) found.block (view.bytes found.block) s q) on.slot

  module _ (safe : ℕ → Bool) (stands : Stands kept.geometry disk q old safe) (has : Has holdings old) (wide : block_count kept.geometry ≤ length holdings.held) (closed : IsFalse (is_open old found.number))
      (accepts : Accepts kept.geometry (now disk q old) (Unlink path)) (draft : Draft) (holds : List ℕ) (leaves : Leaves kept.geometry view holdings found 1 [] draft holds) where
    abbrev Then : Type 0
    Then = IsDoneBy kept.geometry disk q old safe (Unlink path) Done draft.file (over q draft.updates) (going_on old (with_held holdings holds) (users_view disk (over q draft.updates))) (safe_but (number_at kept.geometry view path) safe)

    done_by : LosesLinks kept.geometry view holdings found.number 1 found.block leaves.emptied draft holds → Then
    done_by (Stays more goes none) =
        let n = number_at kept.geometry view path in
        done_as kept.geometry disk q old safe (Unlink path) n draft.file (unlink_plan kept.geometry view path q) (over q draft.updates) old.opened old.held (safe_but n safe) (safe_but n safe) (with_held holdings holds)
        (on.number ∙ sym (leaves_file kept.geometry view holdings found 1 [] draft holds leaves))
        (staying ∙ sym (goes.pending q ∙ ap (lowered found.number (view.inode found.number) 1 found.block) (leaves.empties.pending q)))
        has.opened (has.held ∙ ap (λ (bs : List ℕ). held_by (with_held holdings bs)) (sym none)) has.plan refl
        (UnlinksName path (stays_linked old n (view.inode n).links 1 (subst (λ m. 1 < (view.inode m).links) (sym on.number) more)))
    done_by (Goes few goes held) =
        let n = number_at kept.geometry view path in
        let st = now disk q old in
        let st_has : Has holdings st = record { opened = has.opened; held = has.held; snapshots = has.snapshots; plan = has.plan } in
        let can = accepted_unlink kept.geometry st on.balance stands.geometry path accepts in
        let last = goes_closed st n (view.inode n).links 1 (subst (λ m. (view.inode m).links ≤ 1) (sym on.number) few) (subst (λ m. IsFalse (is_open old m)) (sym on.number) closed)
        (decided kept.geometry st on.balance.rules n (holder kept.geometry view path) (slot_at kept.geometry view path) (entry_block kept.geometry view path) (name_in path) can) in
        let cut = free_is_cut kept.geometry (view.inode n) in
        done_as kept.geometry disk q old safe (Unlink path) n draft.file (unlink_plan_last kept.geometry view path (freed kept.geometry view holdings n 0) q) (over q draft.updates) old.opened _ (safe_but n safe) (safe_but n safe) (with_held holdings holds)
        (on.number ∙ sym (leaves_file kept.geometry view holdings found 1 [] draft holds leaves))
        (going ∙ sym (goes.pending q ∙ ap (freeing found.number (freed kept.geometry view holdings found.number 0) (Block found.block ∷ [])) (leaves.empties.pending q)))
        has.opened
        (held_now kept.geometry st holdings st_has n free_inode 0 cut on.balance.rules wide holdings refl
        ∙ ap (λ (bs : List ℕ). held_by (with_held holdings bs)) (ap (λ m. held_back kept.geometry view holdings m 0) on.number ∙ sym held))
        has.plan
        refl
        (UnlinksFile path (freed kept.geometry view holdings n 0) last.0 (record { closed = last.1; given_up = freed_are_given_up kept.geometry st holdings st_has n free_inode 0 cut }))

    pub unlink_done : IsDoneBy kept.geometry disk q old safe (Unlink path) Done draft.file (over q draft.updates) (going_on old (with_held holdings holds) (users_view disk (over q draft.updates)))
        (safe_after kept.geometry old.view (Unlink path) safe)
    unlink_done =
        subst (λ v. IsDoneBy kept.geometry disk q old safe (Unlink path) Done draft.file (over q draft.updates) (going_on old (with_held holdings holds) (users_view disk (over q draft.updates))) (safe_but (number_at kept.geometry v path) safe)) stands.same
        (done_by leaves.loses)

-- a file that is open loses its name
module _ (decided : StaysOrGoes) (kept : Kept) (holdings : Holdings) (path : List ℕ) (found : Found) (disk : View) (q : List Pending) (old : State) (safe : ℕ → Bool) (stands : Stands kept.geometry disk q old safe) (has : Has holdings old)
    (on : OnVolume kept path found disk q old) (open_now : IsTrue (is_open old found.number)) (draft : Draft) (unnamed : Unnamed kept.geometry (users_view disk q) found draft) where
  pub unnamed_done : IsDoneBy kept.geometry disk q old safe (Unlink path) Done draft.file (over q draft.updates) (going_on old holdings (users_view disk (over q draft.updates))) (safe_after kept.geometry old.view (Unlink path) safe)
  unnamed_done =
      let view = users_view disk q in
      let n = number_at kept.geometry view path in
      subst (λ v. IsDoneBy kept.geometry disk q old safe (Unlink path) Done draft.file (over q draft.updates) (going_on old holdings (users_view disk (over q draft.updates))) (safe_but (number_at kept.geometry v path) safe)) stands.same
      (done_as kept.geometry disk q old safe (Unlink path) n draft.file (unlink_plan kept.geometry view path q) (over q draft.updates) old.opened old.held (safe_but n safe) (safe_but n safe) holdings
      (on.number ∙ sym (unnamed.lowers.file ∙ unnamed.empties.file))
      (staying decided kept holdings path found disk q old on ∙ sym (unnamed.lowers.pending q ∙ ap (lowered found.number (view.inode found.number) 1 found.block) (unnamed.empties.pending q)))
      has.opened has.held has.plan refl
      (UnlinksName path (stays_open old n ((view.inode n).links - 1) (subst (λ m. IsTrue (is_open old m)) (sym on.number) open_now))))

module _ (kept : Kept) (holdings : Holdings) (path : List ℕ) (ps : List (List ℕ)) (found : Found) (draft : Draft) (keeps : KeepsMetadata kept) (volume : IsOfVolume kept)
    (is : parts_of path ≡ Some ps) (at : (view : View) → IsShownBy kept view → IsFileAt kept.geometry view ps found) where
  accepted : (old : State) → Shows kept old.view → Accepts kept.geometry old (Unlink path)
  accepted old shows = (unlink_refusal kept.geometry old path ps is ∙ file_accepted kept.geometry old.view ps found (at old.view (shows_metadata kept old.view keeps shows)), tt)

  -- the updates, where users see what is kept
  there : (disk : View) (q : List Pending) (old : State) (safe : ℕ → Bool) → Stands kept.geometry disk q old safe → Shows kept old.view → OnVolume kept path found disk q old
  there = on_volume kept path ps found keeps is (λ view shown. (at view shown).at)

  pub unlink_planned : StaysOrGoes → block_count kept.geometry ≤ length holdings.held → is_open_by holdings found.number ≡ false → (holds : List ℕ) → ((view : View) → Shows kept view → Unlinked kept.geometry view holdings found draft holds)
      → IsPlannedWith kept holdings [] (Unlink path) Done draft (with_held holdings holds)
  unlink_planned decided wide closed holds unlinked = record {
    geometry = leaves_geometry kept.geometry volume.old.view holdings found 1 [] draft holds (unlinked volume.old.view volume.shows);
    snapshots = refl;
    accepted = λ old shows has. accepted old shows;
    done = λ disk q old safe stands shows has sees.
        let on = there disk q old safe stands shows in
        unlink_done decided kept holdings path found disk q old on safe stands has wide (same_open holdings old has found.number ∙ closed) (accepted (now disk q old) on.seen) draft holds (unlinked (users_view disk q) on.seen);
  }

  pub unnamed_planned : StaysOrGoes → is_open_by holdings found.number ≡ true → ((view : View) → Shows kept view → Unnamed kept.geometry view found draft) → IsPlannedWith kept holdings [] (Unlink path) Done draft holdings
  unnamed_planned decided open_now unnamed = record {
    geometry = let u = unnamed volume.old.view volume.shows in u.lowers.geometry ∙ u.empties.geometry;
    snapshots = refl;
    accepted = λ old shows has. accepted old shows;
    done = λ disk q old safe stands shows has sees.
        let on = there disk q old safe stands shows in
        unnamed_done decided kept holdings path found disk q old safe stands has on (same_open holdings old has found.number ∙ open_now) draft (unnamed (users_view disk q) on.seen);
  }

-- the file has a link
pub file_linked : (kept : Kept) (path : List ℕ) (ps : List (List ℕ)) (found : Found) → KeepsMetadata kept → IsOfVolume kept → parts_of path ≡ Some ps → ((view : View) → IsShownBy kept view → IsFileAt kept.geometry view ps found)
    → 1 ≤ ((frozen_view kept).inode found.number).links
file_linked kept path ps found keeps volume is at =
    let v = volume.old.view in
    let there = (at v (shows_metadata kept v keeps volume.shows)).at in
    let rules = volume.stands.balance.rules in
    let reachable = target_reachable kept.geometry v rules ps found.number (parts_good path ps is) there.number in
    let e = entries_exist kept.geometry v found.number in
    let linked : 1 ≤ (v.inode found.number).links = omega (arith, rules.rule8 found.number e.0 reachable e.1, reachable_counted kept.geometry v rules found.number e.0 reachable e.1) in
    subst (λ (i : Inode). 1 ≤ i.links) (sym (volume.shows.inode found.number)) linked
