-- The updates of a write carry it out.
use Rattle.std.proofs.Common.{◌≡◌, ◌<◌, ◌≤◌, ◌+◌, ◌*◌, ◌||◌, ℕ, Bool, true, false, eqb, List, [], ◌∷◌, ◌++◌, length, drop, max, replicate, inl, inr, refl, sym, ap, ap₂, ◌∙◌, subst, arith, Option, Some, IsTrue, IsFalse, slice_index_or, slice_set, get_or-set_same, get_or-set_other, eq-eqb}
use Rattle.std.specs.Prelude.{unwrap_or}
use Rattle.std.proofs.lemmas.Bool.{cases_eq}
use Rattle.std.proofs.lemmas.Bool.Decides.{nat_tests}
use mathlib.Core.Path.{fun_ext}
use Rattle.model.specs.Layout.{block_count}
use Rattle.model.specs.View.{Inode, View}
use Rattle.model.specs.Shape.{most_blocks}
use Rattle.model.specs.Uses.{blocks_of, claim_at}
use Rattle.model.proofs.Addresses.{data_range}
use Rattle.model.proofs.UseLemmas.{claim_parts}
use Rattle.machine.specs.Causes.{file_of}
use Rattle.machine.specs.Cells.{block_of, seen}
use Rattle.machine.specs.Command.{Done, Write}
use Rattle.machine.specs.Effects.{IsOverwritten, size_after}
use Rattle.machine.specs.Room.{unmarked_blocks}
use Rattle.machine.specs.State.{Plan, State, is_kept}
use Rattle.machine.specs.Whole.{HasWholeBlocks}
use Rattle.ordering.specs.Cuts.{Pending, users_view}
use Rattle.plans_data.specs.Append.{appended}
use Rattle.plans_data.specs.Carried.{Stands}
use Rattle.plans_data.specs.Now.{becomes, now}
use Rattle.plans_data.specs.Plans.{IsChoice, holder_of}
use Rattle.plans_data.specs.Write.{held_besides, relocated, written}
use Rattle.courses.specs.Done.{IsDoneBy, LeavesTheRest, WritesBehind, WritesElsewhere, WritesInPlace}
use Rattle.frozen.specs.Kept.{Kept, KeepsMetadata, frozen_view}
use Rattle.metadata.specs.Shown.{Shows}
use Rattle.metadata.proofs.ShownLemmas.{shows_metadata}
use Rattle.live_states.specs.Drafts.{Draft, GoesOn, over}
use Rattle.live_states.specs.Holdings.{Has, Holdings, going_on, held_by, opened_by, with_held}
use Rattle.live_states.specs.Planned.{AreSeen, IsOfVolumeWith, IsPlannedToTheByte, IsPlannedWith, Seen}
use Rattle.live_states.proofs.Standing.{kept_same}
use Rattle.live_plans.specs.Linked.{CanLink, HasPointers}
use Rattle.live_plans.proofs.GrowLemmas.{choice_there, free_there, volume_claims}
use Rattle.live_plans.proofs.LinkLemmas.{holder_there}
use Rattle.live_writes.specs.Aimed.{IsAimed, IsPlaced, block_count_of, blocks_needed}
use Rattle.live_writes.specs.Written.{grown_size, held_for, holder_at, updates_at, updates_by}
use Rattle.live_writes.specs.declared.aiming.Place.{Place}
use Rattle.live_writes.specs.declared.aiming.Place.TheVariants.{InPlace, Behind, Elsewhere}
use Rattle.live_writes.specs.declared.aiming.Target.{Target}
use Rattle.live_writes.proofs.Facts.{claim_there, link_behind, link_over, open_there}
use Rattle.live_writes.proofs.Pointing.{appends}
use Rattle.live_writes.proofs.Refusals.{good_if, write_accepted}

-- one more block is held
one_more : (held : List Bool) (a : ℕ) → a < length held → (x : ℕ) → (slice_index_or held x false || eqb x a) ≡ slice_index_or (slice_set held a true) x false
one_more held a low x = elim (cases_eq x a) [
  | inl e ↦ ap (λ t. slice_index_or held x false || t) (eq-eqb x a e) ∙ or_true (slice_index_or held x false) ∙ sym (ap (λ y. slice_index_or (slice_set held a true) y false) e ∙ get_or-set_same held a true false low)
  | inr d ↦
      let other : eqb x a ≡ false = grind (arith, nat_tests, d) in
      ap (λ t. slice_index_or held x false || t) other ∙ or_false (slice_index_or held x false) ∙ sym (get_or-set_other held a x true false d)
]
  where
    or_true : (t : Bool) → (t || true) ≡ true
    or_true true = refl
    or_true false = refl

    or_false : (t : Bool) → (t || false) ≡ t
    or_false true = refl
    or_false false = refl

-- the piece over all that users see of the block, or over zeroes behind the last one
abbrev pub IsOverAll : Kept → View → ℕ → ℕ → List ℕ → List ℕ → Place → Type 0
IsOverAll kept view i k piece bytes (InPlace a) = bytes ≡ piece ++ drop (length piece) (view.bytes (block_of kept.geometry view i k))
IsOverAll kept view i k piece bytes (Behind b tables) = bytes ≡ piece ++ drop (length piece) (replicate 1024 0)
IsOverAll kept view i k piece bytes (Elsewhere a b) = bytes ≡ piece ++ drop (length piece) (view.bytes (block_of kept.geometry view i k))

module _ (kept : Kept) (holdings : Holdings) (keeps : KeepsMetadata kept) (volume : IsOfVolumeWith kept holdings) (all : block_count kept.geometry ≤ length holdings.held)
    (h k i : ℕ) (piece bytes : List ℕ) (opened : (old : State) → Has holdings old → file_of old h ≡ i) (claims : HasPointers kept i)
    (room : k < most_blocks kept.geometry) (some : 1 ≤ length piece) where
  module _ (disk : View) (q : List Pending) (old : State) (safe : ℕ → Bool) (stands : Stands kept.geometry disk q old safe) (shown : Shows kept old.view) (has : Has holdings old) where
    abbrev view : View
    view = users_view disk q

    sees : Shows kept view
    sees = subst (λ v. Shows kept v) (sym stands.same) shown

    -- it is done so, and leaves what stands behind the piece if these are the bytes
    abbrev Does : Type 0 → ℕ → List Pending → State → Type 0
    Does Whole j p new = (done : IsDoneBy kept.geometry disk q old safe (Write h k piece) Done j p new safe) × (Whole → LeavesTheRest done)

    at : file_of old h ≡ i
    at = opened old has

    abbrev size_then : ℕ → ℕ
    size_then j = size_after view j k piece

    -- the state then
    state_then : (blocks : List ℕ) (held : ℕ → Bool) (p : List Pending) → held ≡ held_by (with_held holdings blocks) → becomes disk p held old ≡ going_on old (with_held holdings blocks) (users_view disk p)
    state_then blocks held p e =
        ap₂ (λ (o : ℕ → Option ℕ) (l : ℕ → Bool). record old { view = users_view disk p; opened = o; held = l }) has.opened e
        ∙ ap (λ (r : Option Plan). record old { view = users_view disk p; opened = opened_by holdings; held = held_by (with_held holdings blocks); plan = r }) has.plan

    -- what is done so is done with other words for the same
    finish : (Whole : Type 0) (blocks : List ℕ) (held : ℕ → Bool) (p r : List Pending) → r ≡ p → held ≡ held_by (with_held holdings blocks) → Does Whole i p (becomes disk p held old)
        → Does Whole i r (going_on old (with_held holdings blocks) (users_view disk r))
    finish Whole blocks held p r list e does =
        subst (λ l. Does Whole i l (going_on old (with_held holdings blocks) (users_view disk l))) (sym list) (subst (λ new. Does Whole i p new) (state_then blocks held p e) does)

    sized_so : grown_size kept i k piece ≡ size_then i
    sized_so = ap (λ (n : Inode). max n.size (1024 * k + length piece)) (sees.inode i)

    block_so : (a : ℕ) → claim_at kept.geometry (frozen_view kept) i k ≡ Some a → block_of kept.geometry view i k ≡ a
    block_so a e = ap (λ o. unwrap_or o 0) (sym (claim_there kept view keeps sees i k) ∙ e)

    inside_so : k < block_count_of kept i → k < blocks_of (view.inode i).size
    inside_so inside = subst (λ (n : Inode). k < blocks_of n.size) (sees.inode i) inside

    -- ---- in place
    module _ (over_it : IsOverwritten piece (seen kept.geometry view i k) bytes) where
      -- what the block holds that the file has
      abbrev OverBlock : ℕ → Type 0
      OverBlock j = bytes ≡ piece ++ drop (length piece) (view.bytes (block_of kept.geometry view j k))

      abbrev OverZeroes : Type 0
      OverZeroes = bytes ≡ piece ++ drop (length piece) (replicate 1024 0)

      done_in_place : (a : ℕ) → IsPlaced kept holdings i k (InPlace a) → (r : List Pending) → r ≡ updates_by kept i k bytes (grown_size kept i k piece) (InPlace a) q
          → Does (OverBlock i) i r (going_on old (with_held holdings []) (users_view disk r))
      done_in_place a is r list =
          let b = block_so a is.1 in
          finish (OverBlock i) [] old.held (written i (view.inode i) (block_of kept.geometry view i k) bytes (size_then i) q) r
          (list ∙ ap (λ (n : Inode). written i n a bytes (grown_size kept i k piece) q) (sees.inode i) ∙ ap₂ (λ x s. written i (view.inode i) x bytes s q) (sym b) sized_so) has.held
          (subst (λ j. Does (OverBlock j) j (written j (view.inode j) (block_of kept.geometry view j k) bytes (size_then j) q) (becomes disk (written j (view.inode j) (block_of kept.geometry view j k) bytes (size_then j) q) old.held old)) at (
            WritesInPlace h k piece bytes (subst (λ j. IsOverwritten piece (seen kept.geometry view j k) bytes) (sym at) over_it)
                (subst (λ j. k < blocks_of (view.inode j).size) (sym at) (inside_so is.0))
                (subst (λ j. IsFalse (is_kept old (block_of kept.geometry view j k))) (sym at) (ap (is_kept old) b ∙ kept_same holdings old has a ∙ is.2)),
            λ all. all,
          ))

      -- ---- behind the last block
      grows : k ≡ block_count_of kept i → (view.inode i).size < size_then i
      grows next =
          let here : k ≡ blocks_of (view.inode i).size = subst (λ (n : Inode). k ≡ blocks_of n.size) (sees.inode i) next in
          let upper : 1024 * k + length piece ≤ size_then i = omega arith in
          omega (arith, here, upper, some)

      behind_with : (b : ℕ) (news : List ℕ) → k ≡ block_count_of kept i → IsChoice kept.geometry view k b news
          → Does OverZeroes i (appended kept.geometry i (view.inode i) k b bytes (size_then i) (holder_of kept.geometry view i k b news) q)
          (becomes disk (appended kept.geometry i (view.inode i) k b bytes (size_then i) (holder_of kept.geometry view i k b news) q) old.held old)
      behind_with b news next choice =
          subst (λ j. Does OverZeroes j (appended kept.geometry j (view.inode j) k b bytes (size_then j) (holder_of kept.geometry view j k b news) q)
          (becomes disk (appended kept.geometry j (view.inode j) k b bytes (size_then j) (holder_of kept.geometry view j k b news) q) old.held old)) at (
            WritesBehind h k piece bytes b news (subst (λ j. IsOverwritten piece (seen kept.geometry view j k) bytes) (sym at) over_it) choice
                (subst (λ j. blocks_of (view.inode j).size ≤ k) (sym at) (subst (λ (n : Inode). blocks_of n.size ≤ k) (sees.inode i) (omega (arith, next)))),
            λ all. all,
          )

      -- the pointer is kept where users see it
      same_holder : (b : ℕ) (tables : List ℕ) → CanLink kept i k tables → holder_at kept i k b tables ≡ holder_of kept.geometry view i k b tables
      same_holder b tables can = holder_there kept view (shows_metadata kept view keeps sees) i k b tables can

      -- the list by what users see
      list_behind : (b : ℕ) (tables : List ℕ) → k ≡ block_count_of kept i → CanLink kept i k tables
          → updates_by kept i k bytes (grown_size kept i k piece) (Behind b tables) q ≡ appended kept.geometry i (view.inode i) k b bytes (size_then i) (holder_of kept.geometry view i k b tables) q
      list_behind b tables next can =
          ap (λ (n : Inode). relocated kept.geometry i n k b bytes (grown_size kept i k piece) (holder_at kept i k b tables) q) (sees.inode i)
          ∙ ap₂ (λ s holder. relocated kept.geometry i (view.inode i) k b bytes s holder q) sized_so (same_holder b tables can)
          ∙ appends kept.geometry i (view.inode i) k b bytes (size_then i) (holder_of kept.geometry view i k b tables) q (grows next)

      done_behind : (b : ℕ) (tables : List ℕ) → k ≡ block_count_of kept i → IsChoice kept.geometry (frozen_view kept) k b tables
          → (r : List Pending) → r ≡ updates_by kept i k bytes (grown_size kept i k piece) (Behind b tables) q
          → Does OverZeroes i r (going_on old (with_held holdings []) (users_view disk r))
      done_behind b tables next is r list =
          finish OverZeroes [] old.held (appended kept.geometry i (view.inode i) k b bytes (size_then i) (holder_of kept.geometry view i k b tables) q) r
          (list ∙ list_behind b tables next (link_behind kept i k claims room b tables next is)) has.held
          (behind_with b tables next (choice_there kept view sees k b tables is))

      -- ---- elsewhere
      held_then : (a : ℕ) → claim_at kept.geometry (frozen_view kept) i k ≡ Some a → held_besides kept.geometry (now disk q old) i k ≡ held_by (with_held holdings (a ∷ []))
      held_then a e =
          let low : a < length holdings.held = omega (arith, all, (data_range kept.geometry stands.geometry a (claim_parts kept.geometry (frozen_view kept) i k a e).1).1) in
          fun_ext (λ x. ap₂ (λ (l : ℕ → Bool) y. l x || eqb x y) has.held (block_so a e) ∙ one_more holdings.held a low x)

      done_elsewhere : (a b : ℕ) → IsPlaced kept holdings i k (Elsewhere a b) → (r : List Pending) → r ≡ updates_by kept i k bytes (grown_size kept i k piece) (Elsewhere a b) q
          → Does (OverBlock i) i r (going_on old (with_held holdings (a ∷ [])) (users_view disk r))
      done_elsewhere a b is r list =
          let e = block_so a is.1 in
          finish (OverBlock i) (a ∷ []) (held_besides kept.geometry (now disk q old) i k)
          (relocated kept.geometry i (view.inode i) k b bytes (size_then i) (holder_of kept.geometry view i k b []) q) r
          (list ∙ ap (λ (n : Inode). relocated kept.geometry i n k b bytes (grown_size kept i k piece) (holder_at kept i k b []) q) (sees.inode i)
          ∙ ap₂ (λ s holder. relocated kept.geometry i (view.inode i) k b bytes s holder q) sized_so (same_holder b [] (link_over kept i k claims room is.0)))
          (held_then a is.1)
          (subst (λ j. Does (OverBlock j) j (relocated kept.geometry j (view.inode j) k b bytes (size_then j) (holder_of kept.geometry view j k b []) q)
          (becomes disk (relocated kept.geometry j (view.inode j) k b bytes (size_then j) (holder_of kept.geometry view j k b []) q) (held_besides kept.geometry (now disk q old) j k) old)) at (
            WritesElsewhere h k piece bytes b (subst (λ j. IsOverwritten piece (seen kept.geometry view j k) bytes) (sym at) over_it) (free_there kept view sees b is.3)
                (subst (λ j. k < blocks_of (view.inode j).size) (sym at) (inside_so is.0))
                (subst (λ j. IsTrue (is_kept old (block_of kept.geometry view j k))) (sym at) (ap (is_kept old) e ∙ kept_same holdings old has a ∙ is.2)),
            λ all. all,
          ))

      pub done_at : (place : Place) → IsPlaced kept holdings i k place → (r : List Pending) → r ≡ updates_by kept i k bytes (grown_size kept i k piece) place q
          → Does (IsOverAll kept view i k piece bytes place) i r (going_on old (with_held holdings (held_for place)) (users_view disk r))
      done_at (InPlace a) is r list = done_in_place a is r list
      done_at (Behind b tables) is r list = done_behind b tables is.0 is.1 r list
      done_at (Elsewhere a b) is r list = done_elsewhere a b is r list

-- these bytes are the right ones, whatever users see
module _ (kept : Kept) (holdings : Holdings) (keeps : KeepsMetadata kept) (volume : IsOfVolumeWith kept holdings) (all : block_count kept.geometry ≤ length holdings.held)
    (h k : ℕ) (piece bytes : List ℕ) (target : Target) (aimed : IsAimed kept holdings h k piece target)
    (draft : Draft) (goes : GoesOn (record { geometry = kept.geometry; file = target.file; updates = [] }) draft (updates_at kept target bytes (grown_size kept target.file k piece)))
    (blocks : List ℕ) (held : blocks ≡ held_for target.place)
    (sight : List Seen) (overwrites : (view : View) → HasWholeBlocks kept.geometry view → Shows kept view → AreSeen sight view → IsOverwritten piece (seen kept.geometry view target.file k) bytes) where
  abbrev i : ℕ
  i = target.file

  placed_at : IsPlaced kept holdings i k target.place
  placed_at = subst (λ j. IsPlaced kept holdings i j target.place) aimed.index aimed.fits.placed

  near_enough : k < most_blocks kept.geometry
  near_enough = subst (λ j. j < most_blocks kept.geometry) aimed.index aimed.fits.room

  -- it is done, and leaves the rest if the bytes are the piece over all that users see
  abbrev DoesSo : (disk : View) (q : List Pending) (old : State) (safe : ℕ → Bool) → ℕ → State → Type 0
  DoesSo disk q old safe file new =
      (done : IsDoneBy kept.geometry disk q old safe (Write h k piece) Done file (over q draft.updates) new safe) × (IsOverAll kept (users_view disk q) i k piece bytes target.place → LeavesTheRest done)

  does : (disk : View) (q : List Pending) (old : State) (safe : ℕ → Bool) (stands : Stands kept.geometry disk q old safe) (shows : Shows kept old.view) (has : Has holdings old) (sees : AreSeen sight old.view)
      → DoesSo disk q old safe draft.file (going_on old (with_held holdings blocks) (users_view disk (over q draft.updates)))
  does disk q old safe stands shows has sees =
      let view = users_view disk q in
      let over_it = overwrites view (subst (λ v. HasWholeBlocks kept.geometry v) (sym stands.same) stands.balance.whole) (subst (λ v. Shows kept v) (sym stands.same) shows) (subst (λ v. AreSeen sight v) (sym stands.same) sees) in
      subst (λ bs. DoesSo disk q old safe draft.file (going_on old (with_held holdings bs) (users_view disk (over q draft.updates)))) (sym held)
      (subst (λ f. DoesSo disk q old safe f (going_on old (with_held holdings (held_for target.place)) (users_view disk (over q draft.updates)))) (sym goes.file)
      (done_at kept holdings keeps volume all h k i piece bytes (λ s its. ap (λ o. unwrap_or o 0) (open_there holdings s its h ∙ aimed.opened)) (volume_claims kept keeps volume.volume i aimed.fits.sound) near_enough aimed.some
      disk q old safe stands shows has over_it target.place placed_at (over q draft.updates) (goes.pending q ∙ ap (λ j. updates_by kept i j bytes (grown_size kept i k piece) target.place q) aimed.index)))

  abbrev plan : IsPlannedWith kept holdings sight (Write h k piece) Done draft (with_held holdings blocks)
  plan = record {
    geometry = goes.geometry;
    snapshots = refl;
    accepted = write_accepted kept holdings h k piece i aimed.opened (good_if piece aimed.some aimed.few) near_enough aimed.near keeps (subst (λ j. blocks_needed kept holdings i j ≤ unmarked_blocks kept.geometry (frozen_view kept)) aimed.index aimed.enough);
    done = λ disk q old safe stands shows has sees. (does disk q old safe stands shows has sees).0;
  }

  pub write_planned : IsPlannedWith kept holdings sight (Write h k piece) Done draft (with_held holdings blocks)
  write_planned = plan

  -- and where they are the piece over all that users see, the rest stays
  pub write_leaves : ((view : View) → Shows kept view → AreSeen sight view → IsOverAll kept view i k piece bytes target.place) → IsPlannedToTheByte kept holdings sight (Write h k piece) Done draft (with_held holdings blocks)
  write_leaves whole = record {
    planned = plan;
    rest = λ disk q old safe stands shows has sees.
        (does disk q old safe stands shows has sees).1 (whole (users_view disk q) (subst (λ v. Shows kept v) (sym stands.same) shows) (subst (λ v. AreSeen sight v) (sym stands.same) sees));
  }
