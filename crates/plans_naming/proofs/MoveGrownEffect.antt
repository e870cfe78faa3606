-- What users see of a file's name that goes to a directory that gets a block for it.
use Rattle.std.proofs.Common.{◌≡◌, ◌+◌, ◌/◌, ℕ, Bool, true, List, inl, inr, refl, sym, ap, ◌∙◌, subst}
use mathlib.Core.Path.{fun_ext}
use Rattle.std.proofs.lemmas.Bool.{cases_eq}
use Rattle.model.specs.Layout.{Geometry}
use Rattle.model.specs.View.{View, Inode}
use Rattle.model.specs.Cells.{SetInode, SetBlock, SetBytes, updated, updated_all, put_at}
use Rattle.model.specs.Uses.{blocks_of}
use Rattle.model.specs.Slots.{Good}
use Rattle.model.proofs.Places.{same_view, put_here, put_there}
use Rattle.ordering.specs.Cuts.{Cell, Pending, users_view}
use Rattle.ordering.specs.Ghosts.{Ghost, at_rest}
use Rattle.ordering.specs.Agrees.{AllAgree}
use Rattle.ordering.proofs.Bits.{users_obey}
use Rattle.ordering.proofs.SlotKinds.{no_file_directory}
use Rattle.ordering.proofs.Places.{slot_change}
use Rattle.machine.specs.State.{State}
use Rattle.machine.specs.Cells.{with_slot, with_entry, Enters}
use Rattle.machine.specs.Paths.{holder, name_in, number_at, slot_at}
use Rattle.machine.specs.Effects.{with_links, Renames, Across}
use Rattle.plans_data.specs.Append.{Holder, KeptInRecord, KeptInTable, KeptInNew, cells_of, pointed, sized}
use Rattle.plans_data.proofs.Chains.{issues_agree}
use Rattle.plans_naming.specs.Entries.{UnmarkedAreNotHeld, no_entry}
use Rattle.plans_naming.specs.Grow.{empty_block, grown}
use Rattle.plans_naming.specs.Link.{raised}
use Rattle.plans_naming.specs.Move.{CanMoveGrown, moving_grown}
use Rattle.plans_naming.proofs.EntryEffects.{written_slot}
use Rattle.plans_naming.proofs.Folders.{SameFolder, folder_on, stands_there}
use Rattle.plans_naming.proofs.GrowthFacts.{filled_view, linked_view}
use Rattle.plans_naming.proofs.LinkGrown.{apart}
use Rattle.plans_naming.proofs.Links.{reachable_parts}
use Rattle.plans_naming.proofs.Puts.{entry_folder}
use Rattle.plans_naming.proofs.Rooms.{Grows, grow_issues, fills_slot, enters_in_block, grown_view}

-- what is put back is as it was, whatever was put elsewhere
put_back_around : {A : Type 0} (f : ℕ → A) (i d : ℕ) (x y : A) → (d ≡ i → ⊥) → put_at (put_at (put_at f i x) d y) i (f i) ≡ put_at f d y
put_back_around f i d x y apart = fun_ext (λ m. elim (cases_eq m i) [
  | inl e ↦
      ap (put_at (put_at (put_at f i x) d y) i (f i)) e ∙ put_here (put_at (put_at f i x) d y) i (f i)
      ∙ sym (put_there f d i y (λ q. apart (sym q))) ∙ ap (put_at f d y) (sym e)
  | inr o ↦ put_there (put_at (put_at f i x) d y) i m (f i) o ∙ elim (cases_eq m d) [
    | inl e ↦ ap (put_at (put_at f i x) d y) e ∙ put_here (put_at f i x) d y ∙ sym (put_here f d y) ∙ ap (put_at f d y) (sym e)
    | inr p ↦ put_there (put_at f i x) d m y p ∙ put_there f i m x o ∙ sym (put_there f d m y p)
  ]
])

-- the cells that change are no records
records_stay : (geo : Geometry) (k b : ℕ) (h : Holder) (v : View) → (updated_all v (cells_of geo k b h)).inode ≡ v.inode
records_stay geo k b KeptInRecord v = refl
records_stay geo k b (KeptInTable m x table over) v = refl
records_stay geo k b (KeptInNew m x table up) v = records_stay geo m x up (updated (updated v (SetBlock x true)) (SetBytes x table))

record_apart : (geo : Geometry) (k b : ℕ) (h : Holder) (v : View) (i : ℕ) (y : Inode) → updated_all (updated v (SetInode i y)) (cells_of geo k b h) ≡ updated (updated_all v (cells_of geo k b h)) (SetInode i y)
record_apart geo k b KeptInRecord v i y = refl
record_apart geo k b (KeptInTable m x table over) v i y = refl
record_apart geo k b (KeptInNew m x table up) v i y = record_apart geo m x up (updated (updated v (SetBlock x true)) (SetBytes x table)) i y

module _ (geo : Geometry) (disk : View) (q : List Pending) (held safe : ℕ → Bool)
    (i d' b : ℕ) (kept : Holder) (s' : ℕ) (name' entry : List ℕ) (after' : List Cell) (d s block : ℕ) (name : List ℕ) (after : List Cell)
    (marked : UnmarkedAreNotHeld (users_view disk q) held) (can : CanMoveGrown geo (users_view disk q) i d' b kept s' name' entry after' d s block name after)
    (all : AllAgree geo disk q (at_rest held safe)) where
  abbrev ghost : Ghost
  ghost = at_rest held safe

  abbrev users : View
  users = users_view disk q

  abbrev x : Inode
  x = users.inode i

  abbrev more : Inode
  more = with_links x (x.links + 1)

  abbrev parent : Inode
  parent = users.inode d'

  abbrev k : ℕ
  k = blocks_of parent.size

  abbrev new : Inode
  new = sized (pointed geo parent k b kept) (parent.size + 1024)

  abbrev bytes' : List ℕ
  bytes' = with_slot empty_block s' entry

  abbrev zeroed : List ℕ
  zeroed = with_slot (users.bytes block) s no_entry

  abbrev roomy : View
  roomy = users_view disk (grown geo d' parent b kept q)

  abbrev entered : View
  entered = updated roomy (SetBytes b bytes')

  grows : Grows geo disk q ghost d' parent b kept s'
  grows = grow_issues geo disk q ghost d' parent b kept s' refl (can.to.enter).grow (can.to.enter).reachable (λ a f. (marked a f, λ m j. refl)) (can.to.enter).stands all

  pub moved_enters : Enters geo users d' name' i entered
  moved_enters = enters_in_block geo disk q ghost d' parent b kept s' refl (can.to.enter).grow (can.to.enter).reachable (λ a f. (marked a f, λ m j. refl)) (can.to.enter).stands all i name' entry after' can.to.says

  parent_apart : d' ≡ i → ⊥
  parent_apart = apart geo disk q held safe marked i d' b kept s' name' entry after' can.to all

  folder : SameFolder geo users entered d
  folder = folder_on geo users roomy entered d ((grows.room).folder d can.apart)
      (entry_folder geo roomy b bytes' d' s' i name' (slot_change (fills_slot geo users roomy d' b s' i name' entry grows.room (can.to.enter).takes (reachable_parts geo users i can.to.reachable).0 can.to.says).slot)
      (users_obey geo disk (grown geo d' parent b kept q) ghost (issues_agree geo disk q ghost (grown geo d' parent b kept q) ghost grows.issues all)).rule3
      (no_file_directory geo roomy i (ap (λ (y : Inode). y.mode) ((grows.room).records i (λ e. parent_apart (sym e))) ∙ can.to.file)) d can.apart)

  abbrev last_three : View → View
  last_three v = updated (updated (updated (updated v (SetInode d' new)) (SetBytes b bytes')) (SetBytes block zeroed)) (SetInode i x)

  abbrev two_of_them : View → View
  two_of_them v = updated (updated (updated v (SetInode d' new)) (SetBytes b bytes')) (SetBytes block zeroed)

  around : last_three (linked_view geo (updated users (SetInode i more)) k b kept) ≡ two_of_them (linked_view geo users k b kept)
  around =
      ap last_three (record_apart geo k b kept (filled_view users b) i more)
      ∙ same_view (ap (λ f. put_at (put_at (put_at f i more) d' new) i x) records ∙ put_back_around users.inode i d' more new parent_apart ∙ ap (λ f. put_at f d' new) (sym records)) refl refl refl
    where
      records : (linked_view geo users k b kept).inode ≡ users.inode
      records = records_stay geo k b kept (filled_view users b)

  pub moved_view : users_view disk (moving_grown geo i x d' parent b kept s' entry after' block (users.bytes block) s after q) ≡ with_entry geo entered d s no_entry
  moved_view =
      ap (λ (v : View). updated (updated (updated v (SetBytes b bytes')) (SetBytes block zeroed)) (SetInode i x)) (grown_view geo disk (raised i x q) d' parent b kept)
      ∙ around
      ∙ ap (λ (v : View). updated (updated v (SetBytes b bytes')) (SetBytes block zeroed)) (sym (grown_view geo disk q d' parent b kept))
      ∙ ap (λ c. updated entered (SetBytes block (with_slot c s no_entry))) (folder.bytes (s / 16) block can.from.below can.from.claim)
      ∙ sym (written_slot geo entered d s block (Good i name) no_entry (stands_there geo users entered d folder s block (Good i name) can.from))

pub moving_grown_renames : (geo : Geometry) (old : State) (path other : List ℕ) (b : ℕ) (kept : Holder) (s' : ℕ) (entry : List ℕ) (after' : List Cell) (block : ℕ) (name : List ℕ) (after : List Cell)
    → CanMoveGrown geo old.view (number_at geo old.view path) (holder geo old.view other) b kept s' (name_in other) entry after' (holder geo old.view path) (slot_at geo old.view path) block name after
    → (disk : View) (q : List Pending) → users_view disk q ≡ old.view → (safe : ℕ → Bool) → UnmarkedAreNotHeld old.view old.held
    → AllAgree geo disk q (at_rest old.held safe)
    → Renames geo old path other (record old {
      view = users_view disk (moving_grown geo (number_at geo old.view path) (old.view.inode (number_at geo old.view path)) (holder geo old.view other) (old.view.inode (holder geo old.view other)) b kept s' entry after'
          block (old.view.bytes block) (slot_at geo old.view path) after q);
    })
moving_grown_renames geo old path other b kept s' entry after' block name after can disk q same safe marked all =
    let can' : CanMoveGrown geo (users_view disk q) i d' b kept s' (name_in other) entry after' d s block name after = subst (λ v. CanMoveGrown geo v i d' b kept s' (name_in other) entry after' d s block name after) (sym same) can in
    let marked' : UnmarkedAreNotHeld (users_view disk q) old.held = subst (λ v. UnmarkedAreNotHeld v old.held) (sym same) marked in
    Across (updated (users_view disk (grown geo d' (old.view.inode d') b kept q)) (SetBytes b (with_slot empty_block s' entry))) can.apart
    (subst (λ (v : View). Enters geo v d' (name_in other) i (updated (users_view disk (grown geo d' (v.inode d') b kept q)) (SetBytes b (with_slot empty_block s' entry)))) same
    (moved_enters geo disk q old.held safe i d' b kept s' (name_in other) entry after' d s block name after marked' can' all))
    (ap (λ (v : View). record old { view = v }) (subst (λ (v : View). users_view disk (moving_grown geo i (v.inode i) d' (v.inode d') b kept s' entry after' block (v.bytes block) s after q)
    ≡ with_entry geo (updated (users_view disk (grown geo d' (v.inode d') b kept q)) (SetBytes b (with_slot empty_block s' entry))) d s no_entry) same
    (moved_view geo disk q old.held safe i d' b kept s' (name_in other) entry after' d s block name after marked' can' all)))
  where
    i : ℕ
    i = number_at geo old.view path

    d' : ℕ
    d' = holder geo old.view other

    d : ℕ
    d = holder geo old.view path

    s : ℕ
    s = slot_at geo old.view path
