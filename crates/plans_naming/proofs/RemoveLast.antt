-- An empty directory goes with its entry: what users see, and the updates in their order.
use Rattle.std.proofs.Common.{◌≡◌, ◌-◌, ℕ, Bool, false, not, eqb, List, [], ◌∷◌, refl, sym, ap, ◌∙◌, subst, arith, IsFalse}
use mathlib.Core.Path.{fun_ext}
use Rattle.std.proofs.lemmas.Bool.{and_parts}
use Rattle.model.specs.Layout.{Geometry}
use Rattle.model.specs.View.{View, Inode, free_inode}
use Rattle.model.specs.Cells.{SetInode, SetNumber, SetBytes, updated}
use Rattle.model.specs.Uses.{use_at}
use Rattle.model.specs.Slots.{Empty, Good}
use Rattle.model.proofs.Finite.{entries_exist}
use Rattle.model.proofs.SlotLemmas.{number_low, directory_sound, reachable_directory}
use Rattle.model.proofs.SlotChange.{slot_uses}
use Rattle.model.proofs.NewRecord.{outside_tree}
use Rattle.model.proofs.Places.{put_there}
use Rattle.model.proofs.SameTree.{SameTree, count_back}
use Rattle.ordering.specs.Cuts.{Cell, Record, Block, Pending, users_view}
use Rattle.ordering.specs.Places.{HasPlace}
use Rattle.ordering.specs.Ghosts.{Ghost, at_rest}
use Rattle.ordering.specs.Agrees.{AllAgree}
use Rattle.ordering.specs.Kinds.{SameBody, MayLower, settled}
use Rattle.ordering.specs.Histories.{Lowers}
use Rattle.ordering.proofs.Bits.{users_obey, number_bit_shape}
use Rattle.ordering.proofs.Places.{slot_change, unnamed}
use Rattle.machine.specs.State.{State}
use Rattle.machine.specs.Cells.{with_slot}
use Rattle.machine.specs.Paths.{holder, number_at, slot_at}
use Rattle.machine.specs.Effects.{with_links, removed, relinked, emptied}
use Rattle.plans_data.specs.Issues.{Issues, Then}
use Rattle.plans_data.specs.Now.{now, becomes}
use Rattle.plans_data.specs.Freeing.{MayFreeing, held_with, within, but_of, freeing}
use Rattle.plans_data.proofs.Chains.{issues_agree, joined}
use Rattle.plans_data.proofs.Clearing.{cleared_marks}
use Rattle.plans_data.proofs.Freeing.{freeing_issues}
use Rattle.plans_data.proofs.Swept.{freeing_relinked}
use Rattle.plans_naming.specs.Entries.{no_entry, slot_written}
use Rattle.plans_naming.specs.Unlink.{CanFree}
use Rattle.plans_naming.specs.RemoveDirectory.{CanRemove, removing}
use Rattle.plans_naming.proofs.EntryEffects.{written_slot}
use Rattle.plans_data.proofs.LetGoRight.{marks_shape}
use Rattle.plans_naming.proofs.Folders.{tree_on}
use Rattle.plans_naming.proofs.Frees.{given_there, held_there, held_with_there}
use Rattle.plans_naming.proofs.Links.{same_body}
use Rattle.plans_naming.proofs.Rests.{same_ghost}
use Rattle.plans_naming.proofs.Tallies.{some_counted}
use Rattle.plans_naming.proofs.RemoveOrder.{with_gone, change, o, apart, entry_issues, its_number, parent_number, parent_links, pruned_now, fewer_of_it, fewer_of_parent, gone_first, none_other}
use Rattle.plans_naming.proofs.RemoveName.{parent_relinked}
use Rattle.plans_naming.proofs.UnlinkLast.{now_is}

-- other marks of blocks
marks_tree : (geo : Geometry) (v : View) (marks : ℕ → Bool) → SameTree geo v (record v { block_marked = marks })
marks_tree geo v marks = (marks_shape geo v marks).tree

module _ (geo : Geometry) (disk : View) (q : List Pending) (st : State) (i b d s block : ℕ) (name : List ℕ) (after : List Cell) (blocks : List ℕ) (safe : ℕ → Bool)
    (can : CanRemove geo (users_view disk q) i b d s block name after) (free : CanFree geo (now disk q st) i blocks) (two : ((users_view disk q).inode i).links ≡ 2) (not_safe : IsFalse (safe i))
    (all : AllAgree geo disk q (at_rest st.held safe)) where
  abbrev ghost : Ghost
  ghost = at_rest st.held safe

  abbrev users : View
  users = users_view disk q

  abbrev y : Inode
  y = users.inode d

  abbrev less : Inode
  less = with_links y (y.links - 1)

  abbrev q1 : List Pending
  q1 = slot_written block (users.bytes block) s no_entry after ∷ q

  abbrev users1 : View
  users1 = users_view disk q1

  abbrev gone : Ghost
  gone = with_gone geo disk q st.held safe i b d s block name after can not_safe all

  abbrev q2 : List Pending
  q2 = freeing i blocks (Block block ∷ []) q1

  abbrev users2 : View
  users2 = users_view disk q2

  first : Issues geo disk q ghost q1 gone
  first = entry_issues geo disk q st.held safe i b d s block name after can not_safe all

  all1 : AllAgree geo disk q1 gone
  all1 = issues_agree geo disk q ghost q1 gone first all

  uses_kept : (n k : ℕ) → use_at geo users n k ≡ use_at geo users1 n k
  uses_kept = slot_uses geo users block (with_slot (users.bytes block) s no_entry) d s (Good i name) Empty
      (slot_change (change geo disk q st.held safe i b d s block name after can not_safe all).slot)
      (o geo disk q st.held safe i b d s block name after can not_safe all).rule3

  no_place : (e t c : ℕ) → HasPlace geo users1 i e t c → ⊥
  no_place e t c p =
      let n = entries_exist geo users1 i in
      let some = some_counted geo users1 i (omega (arith, number_low geo i (its_number geo disk q st.held safe i b d s block name after can not_safe all))) e t c p n.0 n.1 in
      let few = fewer_of_it geo disk q st.held safe i b d s block name after can not_safe all n.0 n.1 in
      omega (arith, some, few, two)

  may : MayFreeing geo (now disk q1 st) gone.gone i blocks (Block block ∷ [])
  may = record {
    number = its_number geo disk q st.held safe i b d s block name after can not_safe all;
    no_place = no_place;
    witnesses = λ g t e. gone_first geo disk q st.held safe i b d s block name after can not_safe all g t;
    given_up = given_there geo (now disk q st) users1 i uses_kept blocks free.given_up;
    held = held_there geo (now disk q st) users1 i uses_kept free.held;
  }

  abbrev held' : ℕ → Bool
  held' = held_with geo (now disk q1 st) i free_inode

  held_is : held' ≡ held_with geo (now disk q st) i free_inode
  held_is = held_with_there geo (now disk q st) users1 i uses_kept

  abbrev freed : View
  freed = updated (updated users1 (SetInode i free_inode)) (SetNumber i false)

  marked_is : users2 ≡ record freed { block_marked = users2.block_marked }
  marked_is = let e = cleared_marks disk i blocks (record { change = SetNumber i false; after = Record i ∷ [] } ∷ record { change = SetInode i free_inode; after = Block block ∷ [] } ∷ q1) in
      e ∙ ap (λ f. record freed { block_marked = f }) (ap (λ (v : View). v.block_marked) (sym e))

  tree : SameTree geo users1 users2
  tree = subst (λ v. SameTree geo users1 v) (sym marked_is)
      (tree_on geo users1 (updated users1 (SetInode i free_inode)) (record freed { block_marked = users2.block_marked })
      (outside_tree geo users1 i free_inode (users_obey geo disk q1 gone all1).rule1
      (pruned_now geo disk q st.held safe i b d s block name after can not_safe all)
      (λ e t r h. absurd (unnamed geo users1 i no_place e t r h)))
      (tree_on geo (updated users1 (SetInode i free_inode)) freed (record freed { block_marked = users2.block_marked }) (number_bit_shape geo (updated users1 (SetInode i free_inode)) i false).tree (marks_tree geo freed users2.block_marked)))

  pub parent_there : users2.inode d ≡ y
  parent_there = ap (λ (v : View). v.inode d) marked_is ∙ put_there users.inode i d free_inode (apart geo disk q st.held safe i b d s block name after can not_safe all)

  lower_parent : MayLower geo users2 (within held' (but_of i gone.gone) safe) (Block block ∷ []) d less
  lower_parent = record {
    body = subst (λ r. SameBody geo r less) (sym parent_there) (same_body geo y (y.links - 1) (directory_sound geo users d (reachable_directory geo users d can.place.reachable)));
    witnesses = λ g t e. gone_first geo disk q st.held safe i b d s block name after can not_safe all g (and_parts (gone.gone g) (not (eqb g.number i)) t).0;
    links = λ m h.
        let was = count_back geo users1 users2 tree d m (omega (arith, number_low geo d (parent_number geo disk q st.held safe i b d s block name after can not_safe all))) h in
        let few = fewer_of_parent geo disk q st.held safe i b d s block name after can not_safe all was.0 was.1 in
        omega (arith, was.2, few);
  }

  pub remove_issues : Issues geo disk q ghost (removing i blocks d y block (users.bytes block) s after q) (at_rest (held_with geo (now disk q st) i free_inode) safe)
  remove_issues =
      subst (λ g. Issues geo disk q ghost (removing i blocks d y block (users.bytes block) s after q) g)
      (same_ghost held_is (fun_ext (λ g. none_other geo disk q st.held safe i b d s block name after can not_safe all g)) refl refl refl refl)
      (Then (record { change = SetInode d less; after = Block block ∷ [] }) (settled d (within held' (but_of i gone.gone) safe))
      (joined geo disk q ghost q1 gone q2 (within held' (but_of i gone.gone) safe) first
      (freeing_issues geo disk q1 st gone.gone safe i blocks (Block block ∷ []) may all1))
      (Lowers (Block block ∷ []) d less lower_parent))

  pub remove_relinked : becomes disk (removing i blocks d y block (users.bytes block) s after q) (held_with geo (now disk q st) i free_inode) st
      ≡ relinked geo (relinked geo (now disk q1 st) i 0) d (y.links - 1)
  remove_relinked =
      ap (λ h. becomes disk (removing i blocks d y block (users.bytes block) s after q) h st) (sym held_is)
      ∙ parent_relinked geo (becomes disk q2 held' st) d y parent_there (parent_links geo disk q st.held safe i b d s block name after can not_safe all)
      ∙ ap (λ state. relinked geo state d (y.links - 1)) (freeing_relinked geo disk q1 st gone.gone safe i blocks (Block block ∷ []) may all1 free.closed)

-- ---- the same, for the state that users see

module _ (geo : Geometry) (old : State) (i b d s block : ℕ) (name : List ℕ) (after : List Cell) (blocks : List ℕ) (can : CanRemove geo old.view i b d s block name after) (free : CanFree geo old i blocks) (two : (old.view.inode i).links ≡ 2)
    (disk : View) (q : List Pending) (same : users_view disk q ≡ old.view) (safe : ℕ → Bool) (not_safe : IsFalse (safe i))
    (all : AllAgree geo disk q (at_rest old.held safe)) where
  abbrev is_old : now disk q old ≡ old
  is_old = now_is disk q old same

  can' : CanRemove geo (users_view disk q) i b d s block name after
  can' = subst (λ (v : View). CanRemove geo v i b d s block name after) (sym same) can

  free' : CanFree geo (now disk q old) i blocks
  free' = subst (λ st. CanFree geo st i blocks) (sym is_old) free

  two' : ((users_view disk q).inode i).links ≡ 2
  two' = subst (λ (v : View). (v.inode i).links ≡ 2) (sym same) two

  pub removing_issues : Issues geo disk q (at_rest old.held safe) (removing i blocks d (old.view.inode d) block (old.view.bytes block) s after q) (at_rest (held_with geo old i free_inode) safe)
  removing_issues =
      subst (λ (st : State). Issues geo disk q (at_rest old.held safe) (removing i blocks d (st.view.inode d) block (st.view.bytes block) s after q) (at_rest (held_with geo st i free_inode) safe)) is_old
      (remove_issues geo disk q old i b d s block name after blocks safe can' free' two' not_safe all)

  pub removing_relinked : becomes disk (removing i blocks d (old.view.inode d) block (old.view.bytes block) s after q) (held_with geo old i free_inode) old
      ≡ relinked geo (relinked geo (record old { view = updated old.view (SetBytes block (with_slot (old.view.bytes block) s no_entry)) }) i 0) d ((old.view.inode d).links - 1)
  removing_relinked =
      subst (λ (st : State). becomes disk (removing i blocks d (st.view.inode d) block (st.view.bytes block) s after q) (held_with geo st i free_inode) old
      ≡ relinked geo (relinked geo (record st { view = updated st.view (SetBytes block (with_slot (st.view.bytes block) s no_entry)) }) i 0) d ((st.view.inode d).links - 1)) is_old
      (remove_relinked geo disk q old i b d s block name after blocks safe can' free' two' not_safe all)

module _ (geo : Geometry) (old : State) (path : List ℕ) (b block : ℕ) (name : List ℕ) (after : List Cell) (blocks : List ℕ)
    (can : CanRemove geo old.view (number_at geo old.view path) b (holder geo old.view path) (slot_at geo old.view path) block name after)
    (free : CanFree geo old (number_at geo old.view path) blocks) (two : (old.view.inode (number_at geo old.view path)).links ≡ 2) where
  abbrev n : ℕ
  n = number_at geo old.view path

  abbrev e : ℕ
  e = holder geo old.view path

  abbrev t : ℕ
  t = slot_at geo old.view path

  pub removing_removes : (disk : View) (q : List Pending) → users_view disk q ≡ old.view → (safe : ℕ → Bool) → IsFalse (safe n)
      → AllAgree geo disk q (at_rest old.held safe)
      → becomes disk (removing n blocks e (old.view.inode e) block (old.view.bytes block) t after q) (held_with geo old n free_inode) old ≡ removed geo old path
  removing_removes disk q same safe not_safe all =
      removing_relinked geo old n b e t block name after blocks can free two disk q same safe not_safe all
      ∙ ap (λ (v : View). relinked geo (relinked geo (record old { view = v }) n 0) e ((old.view.inode e).links - 1)) (sym (written_slot geo old.view e t block (Good n name) no_entry can.place))
      ∙ ap (λ (links : ℕ). relinked geo (relinked geo (emptied geo old e t) n (links - 2)) e ((old.view.inode e).links - 1)) (sym two)
