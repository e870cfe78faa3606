-- The updates of a close and of a truncation carry them out.
use Rattle.std.proofs.Common.{◌≡◌, ◌<◌, ◌≤◌, ℕ, Bool, true, false, not, ◌&&◌, cond, eqb, ltb, List, [], ◌∷◌, length, Option, Some, None, is_none, slice_index_or, refl, sym, ap, ◌∙◌, subst, inl, inr, ◌⊎◌, IsTrue, IsFalse, eq-eqb, ne_eqb, le-ltb, lt-ltb}
use Rattle.std.specs.Prelude.{unwrap_or}
use Rattle.std.specs.List.{All}
use Rattle.std.proofs.lemmas.Bool.{and_parts, cases_lt}
use Rattle.std.proofs.lemmas.List.{get_or_past}
use Rattle.std.proofs.lemmas.List.Elements.{All-nil}
use Rattle.model.specs.Cells.{put_at}
use Rattle.model.specs.Layout.{Geometry, block_count, is_number}
use Rattle.model.specs.Uses.{blocks_of, is_sound}
use Rattle.model.specs.View.{Inode, View, free_inode}
use Rattle.layout.specs.declared.refusal.Refusal.{Refusal}
use Rattle.layout.specs.declared.refusal.Refusal.TheVariants.{BadHandle, BadIndex}
use Rattle.ordering.specs.Cuts.{Pending, users_view}
use Rattle.machine.specs.Balance.{Balance}
use Rattle.machine.specs.Below.{first_of, when}
use Rattle.machine.specs.Causes.{Accepts, causes, file_of, refusal_of}
use Rattle.machine.specs.Command.{Close, Done, Truncate}
use Rattle.machine.specs.State.{State, is_open, open_at}
use Rattle.plans_data.specs.Append.{sized}
use Rattle.plans_data.specs.Carried.{Stands}
use Rattle.plans_data.specs.Freeing.{freeing, held_with}
use Rattle.plans_data.specs.Lists.{given_up_with}
use Rattle.plans_data.specs.Now.{now}
use Rattle.plans_data.specs.Relink.{closing, goes_away, held_if, without_handle}
use Rattle.plans_data.specs.Truncate.{truncation}
use Rattle.plans_data.proofs.Accepted.{accepted_close, accepted_truncate}
use Rattle.courses.specs.Done.{ClosesHandle, IsDoneBy, TruncatesFile}
use Rattle.frozen.specs.Kept.{Kept, frozen_view}
use Rattle.metadata.specs.Shown.{Shows}
use Rattle.live_holdings.specs.Handles.{closed, handle_at}
use Rattle.live_holdings.proofs.Tables.{table_set}
use Rattle.live_states.specs.Drafts.{Draft, over}
use Rattle.live_states.specs.Holdings.{Has, Holdings, going_on, held_by, is_kept_by, is_open_by, opened_by, with_held}
use Rattle.live_states.specs.Planned.{IsOfVolumeWith, IsPlannedWith}
use Rattle.live_removals.specs.Shortened.{Goes, LetsGo, Shortens, Stays}
use Rattle.live_removals.proofs.Given.{IsCut, free_is_cut, freed_is, gone_below_count, held_now, sized_is_cut}
use Rattle.live_removals.proofs.Leaving.{done_as}

-- ---- causes

truncate_causes : View → ℕ → Option ℕ → Option Refusal
truncate_causes view size o = first_of (when (is_none o) BadHandle ∷ when (ltb (view.inode (unwrap_or o 0)).size size) BadIndex ∷ [])

module _ (geo : Geometry) (holdings : Holdings) (h : ℕ) (old : State) (has : Has holdings old) where
  pub open_is : (o : Option ℕ) → handle_at holdings h ≡ o → open_at old h ≡ o
  open_is o at = ap (λ (opened : ℕ → Option ℕ). cond (ltb h 1024) (opened h) None) has.opened ∙ at

  pub file_is : (n : ℕ) → handle_at holdings h ≡ Some n → file_of old h ≡ n
  file_is n at = ap (λ o. unwrap_or o 0) (open_is (Some n) at)

  pub close_refused : handle_at holdings h ≡ None → refusal_of geo old (Close h) ≡ Some BadHandle
  unfolding causes
  close_refused at = ap (λ o. first_of (when (is_none o) BadHandle ∷ [])) (open_is None at)

  pub close_accepted : (n : ℕ) → handle_at holdings h ≡ Some n → Accepts geo old (Close h)
  unfolding causes
  close_accepted n at = (ap (λ o. first_of (when (is_none o) BadHandle ∷ [])) (open_is (Some n) at), tt)

  module _ (size : ℕ) where
    pub truncate_refused : handle_at holdings h ≡ None → refusal_of geo old (Truncate h size) ≡ Some BadHandle
    unfolding causes truncate_causes
    truncate_refused at = ap (truncate_causes old.view size) (open_is None at)

    pub truncate_too_large : (n : ℕ) → handle_at holdings h ≡ Some n → (old.view.inode n).size < size → refusal_of geo old (Truncate h size) ≡ Some BadIndex
    unfolding causes truncate_causes
    truncate_too_large n at large =
        ap (truncate_causes old.view size) (open_is (Some n) at) ∙ ap (λ b. first_of (when false BadHandle ∷ when b BadIndex ∷ [])) (lt-ltb (old.view.inode n).size size large)

    pub truncate_accepted : (n : ℕ) → handle_at holdings h ≡ Some n → size ≤ (old.view.inode n).size → Accepts geo old (Truncate h size)
    unfolding causes truncate_causes
    truncate_accepted n at small =
        (ap (truncate_causes old.view size) (open_is (Some n) at) ∙ ap (λ b. first_of (when false BadHandle ∷ when b BadIndex ∷ [])) (le-ltb (old.view.inode n).size size small), tt)

-- an open handle stands in the table
in_table : (l : List (Option ℕ)) (h n : ℕ) → cond (ltb h 1024) (slice_index_or l h None) None ≡ Some n → h < length l
in_table l h n at = elim (cases_lt h (length l)) [
  | inl low ↦ low
  | inr past ↦ absurd (none_open (ltb h 1024) (sym (ap (λ o. cond (ltb h 1024) o None) (get_or_past l h None past)) ∙ at))
]
  where
    none_open : (b : Bool) → cond b None None ≡ Some n → ⊥
    none_open true e = cc
    none_open false e = cc

module _ (kept : Kept) (holdings : Holdings) (h n : ℕ) (at : handle_at holdings h ≡ Some n) where
  -- ---- what is known of the file

  -- it has a number
  pub number_is : IsOfVolumeWith kept holdings → IsTrue (is_number kept.geometry n)
  number_is volume =
      let old = volume.volume.old in
      let file = accepted_close kept.geometry old volume.volume.stands.balance h (close_accepted kept.geometry holdings h old volume.has n at) in
      subst (λ m. IsTrue (is_number kept.geometry m)) (file_is kept.geometry holdings h old volume.has n at) (and_parts (is_number kept.geometry (file_of old h)) (is_sound kept.geometry (old.view.inode (file_of old h))) file.sound).0

  module _ (disk : View) (q : List Pending) (old : State) (safe : ℕ → Bool) (stands : Stands kept.geometry disk q old safe) (has : Has holdings old) (wide : block_count kept.geometry ≤ length holdings.held) where
    abbrev view : View
    view = users_view disk q

    abbrev st : State
    st = now disk q old

    st_has : Has holdings st
    st_has = record { opened = has.opened; held = has.held; snapshots = has.snapshots; plan = has.plan }

    balance : Balance kept.geometry st
    balance = subst (λ v. Balance kept.geometry (record old { view = v })) (sym stands.same) stands.balance

    same_file : file_of old h ≡ n
    same_file = file_is kept.geometry holdings h old has n at

    -- ---- a close

    abbrev left : State
    left = without_handle h old

    opened_then : put_at old.opened h None ≡ opened_by (closed holdings h)
    opened_then = ap (λ (o : ℕ → Option ℕ). put_at o h None) has.opened ∙ sym (table_set holdings.opened h None (in_table holdings.opened h n at))

    still_open : (m : ℕ) → is_open left m ≡ is_open_by (closed holdings h) m
    still_open m = ap (λ (o : ℕ → Option ℕ). is_open (record old { opened = o }) m) opened_then

    -- the file goes or stays
    abbrev away : ℕ → Bool
    away m = goes_away (view.inode m).links (is_open left m)

    abbrev closes : ℕ → List Pending
    closes m = closing m (view.inode m) (is_open left m) (given_up_with kept.geometry st m free_inode) q

    closed_so : (draft : Draft) (holds : List ℕ) (b : Bool) → away n ≡ b → draft.file ≡ n
        → cond b (freeing n (given_up_with kept.geometry st n free_inode) [] q) q ≡ over q draft.updates
        → cond b (held_with kept.geometry st n free_inode) old.held ≡ held_by (with_held (closed holdings h) holds)
        → IsDoneBy kept.geometry disk q old safe (Close h) Done draft.file (over q draft.updates) (going_on old (with_held (closed holdings h) holds) (users_view disk (over q draft.updates))) safe
    closed_so draft holds b is file plan held =
        done_as kept.geometry disk q old safe (Close h) (file_of old h) draft.file (closes (file_of old h)) (over q draft.updates) (put_at old.opened h None) (held_if (away (file_of old h)) kept.geometry st (file_of old h)) safe safe
        (with_held (closed holdings h) holds)
        (same_file ∙ sym file)
        (ap closes same_file ∙ ap (λ t. cond t (freeing n (given_up_with kept.geometry st n free_inode) [] q) q) is ∙ plan)
        opened_then
        (ap (λ m. held_if (away m) kept.geometry st m) same_file ∙ ap (λ t. cond t (held_with kept.geometry st n free_inode) old.held) is ∙ held)
        has.plan
        refl
        (ClosesHandle h)

    stays_so : ((view.inode n).links ≡ 0 → ⊥) ⊎ IsTrue (is_open_by (closed holdings h) n) → away n ≡ false
    stays_so (inl some) = ap (λ b. b && not (is_open left n)) (ne_eqb (view.inode n).links 0 some)
    stays_so (inr open_now) = ap (λ b. eqb (view.inode n).links 0 && not b) (still_open n ∙ open_now) ∙ none (eqb (view.inode n).links 0)
      where
        none : (b : Bool) → (b && false) ≡ false
        none true = refl
        none false = refl

    goes_so : (view.inode n).links ≡ 0 → IsFalse (is_open_by (closed holdings h) n) → away n ≡ true
    goes_so none shut = ap (λ b. b && not (is_open left n)) (eq-eqb (view.inode n).links 0 none) ∙ ap not (still_open n ∙ shut)

    pub close_done : (draft : Draft) (holds : List ℕ) → LetsGo kept.geometry view holdings h n draft holds
        → IsDoneBy kept.geometry disk q old safe (Close h) Done draft.file (over q draft.updates) (going_on old (with_held (closed holdings h) holds) (users_view disk (over q draft.updates))) safe
    close_done draft holds (Stays why none_yet none) =
        closed_so draft holds false (stays_so why) (ap (λ (d : Draft). d.file) none_yet) (sym (ap (λ (d : Draft). over q d.updates) none_yet)) (has.held ∙ ap (λ (bs : List ℕ). held_by (with_held (closed holdings h) bs)) (sym none))
    close_done draft holds (Goes none shut goes held) =
        let cut = free_is_cut kept.geometry (view.inode n) in
        closed_so draft holds true (goes_so none shut) goes.file
        (ap (λ bs. freeing n bs [] q) (sym (freed_is kept.geometry st holdings st_has n free_inode 0 cut)) ∙ sym (goes.pending q))
        (held_now kept.geometry st holdings st_has n free_inode 0 cut balance.rules wide (closed holdings h) refl ∙ ap (λ (bs : List ℕ). held_by (with_held (closed holdings h) bs)) (sym held))

    -- ---- a truncation

    module _ (size : ℕ) (small : size ≤ (view.inode n).size) where
      cut_so : IsCut kept.geometry (view.inode n) (sized (view.inode n) size) (blocks_of size)
      cut_so =
          let file = (accepted_truncate kept.geometry st balance h size (truncate_accepted kept.geometry holdings h st st_has size n at small)).0 in
          let sound = subst (λ m. IsTrue (is_sound kept.geometry (view.inode m))) same_file (and_parts (is_number kept.geometry (file_of old h)) (is_sound kept.geometry (view.inode (file_of old h))) file.sound).1 in
          sized_is_cut kept.geometry (view.inode n) size sound (subst (λ m. (view.inode m).mode ≡ 1) same_file file.file) small

      abbrev shorter : ℕ → Inode
      shorter m = sized (view.inode m) size

      abbrev truncates : ℕ → List Pending
      truncates m = truncation m (view.inode m) size (given_up_with kept.geometry st m (shorter m)) q

      pub truncate_done : (draft : Draft) (holds : List ℕ) → Shortens kept.geometry view holdings n size draft holds
          → IsDoneBy kept.geometry disk q old safe (Truncate h size) Done draft.file (over q draft.updates) (going_on old (with_held holdings holds) (users_view disk (over q draft.updates))) safe
      truncate_done draft holds shortens =
          done_as kept.geometry disk q old safe (Truncate h size) (file_of old h) draft.file (truncates (file_of old h)) (over q draft.updates) old.opened (held_with kept.geometry st (file_of old h) (shorter (file_of old h))) safe safe
          (with_held holdings holds)
          (same_file ∙ sym shortens.updates.file)
          (ap truncates same_file ∙ ap (λ bs. truncation n (view.inode n) size bs q) (sym (freed_is kept.geometry st holdings st_has n (shorter n) (blocks_of size) cut_so)) ∙ sym (shortens.updates.pending q))
          has.opened
          (ap (λ m. held_with kept.geometry st m (shorter m)) same_file ∙ held_now kept.geometry st holdings st_has n (shorter n) (blocks_of size) cut_so balance.rules wide holdings refl
          ∙ ap (λ (bs : List ℕ). held_by (with_held holdings bs)) (sym shortens.held))
          has.plan
          refl
          (TruncatesFile h size)

  -- ---- what is planned

  lets_go_geometry : (view : View) (draft : Draft) (holds : List ℕ) → LetsGo kept.geometry view holdings h n draft holds → draft.geometry ≡ kept.geometry
  lets_go_geometry _ draft holds (Stays why none_yet none) = ap (λ (d : Draft). d.geometry) none_yet
  lets_go_geometry _ draft holds (Goes none shut goes held) = goes.geometry

  pub lets_go_blocks : (view : View) (draft : Draft) (holds : List ℕ) → LetsGo kept.geometry view holdings h n draft holds → All (λ a. a < block_count kept.geometry) holds
  lets_go_blocks _ draft holds (Stays why none_yet none) = subst (λ (bs : List ℕ). All (λ a. a < block_count kept.geometry) bs) (sym none) (All-nil (λ a. a < block_count kept.geometry))
  lets_go_blocks seen draft holds (Goes none shut goes held) =
      subst (λ (bs : List ℕ). All (λ a. a < block_count kept.geometry) bs) (sym held) (gone_below_count (is_kept_by holdings) kept.geometry seen n 0)

  pub shortens_blocks : (view : View) (size : ℕ) (draft : Draft) (holds : List ℕ) → Shortens kept.geometry view holdings n size draft holds → All (λ a. a < block_count kept.geometry) holds
  shortens_blocks view size draft holds shortens =
      subst (λ (bs : List ℕ). All (λ a. a < block_count kept.geometry) bs) (sym shortens.held) (gone_below_count (is_kept_by holdings) kept.geometry view n (blocks_of size))

  module _ (volume : IsOfVolumeWith kept holdings) (wide : block_count kept.geometry ≤ length holdings.held) (draft : Draft) (holds : List ℕ) where
    shown : (disk : View) (q : List Pending) (old : State) (safe : ℕ → Bool) → Stands kept.geometry disk q old safe → Shows kept old.view → Shows kept (users_view disk q)
    shown disk q old safe stands shows = subst (λ v. Shows kept v) (sym stands.same) shows

    pub close_planned : ((view : View) → Shows kept view → LetsGo kept.geometry view holdings h n draft holds) → IsPlannedWith kept holdings [] (Close h) Done draft (with_held (closed holdings h) holds)
    close_planned lets_go = record {
      geometry = lets_go_geometry volume.volume.old.view draft holds (lets_go volume.volume.old.view volume.volume.shows);
      snapshots = refl;
      accepted = λ old shows has. close_accepted kept.geometry holdings h old has n at;
      done = λ disk q old safe stands shows has sees. close_done disk q old safe stands has wide draft holds (lets_go (users_view disk q) (shown disk q old safe stands shows));
    }

    pub truncate_planned : (size : ℕ) → size ≤ ((frozen_view kept).inode n).size → ((view : View) → Shows kept view → Shortens kept.geometry view holdings n size draft holds)
        → IsPlannedWith kept holdings [] (Truncate h size) Done draft (with_held holdings holds)
    truncate_planned size small shortens = record {
      geometry = (shortens volume.volume.old.view volume.volume.shows).updates.geometry;
      snapshots = refl;
      accepted = λ old shows has. truncate_accepted kept.geometry holdings h old has size n at (subst (λ (i : Inode). size ≤ i.size) (shows.inode n) small);
      done = λ disk q old safe stands shows has sees.
          let seen = shown disk q old safe stands shows in
          truncate_done disk q old safe stands has wide size (subst (λ (i : Inode). size ≤ i.size) (seen.inode n) small) draft holds (shortens (users_view disk q) seen);
    }
