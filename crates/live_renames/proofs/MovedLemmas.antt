-- A file's name goes to another directory by its updates.
use Rattle.std.proofs.Common.{◌≡◌, ◌/◌, ◌⊎◌, ℕ, Bool, List, [], ◌∷◌, inl, inr, refl, sym, ap, ap₂, ◌∙◌, subst, le-leb, IsFalse, IsTrue, Some, Ok, All, Contains, map}
use Rattle.std.specs.Prelude.{unwrap_or}
use Rattle.std.proofs.lemmas.List.Elements.{All-cons, All-nil}
use Rattle.model.proofs.Shape.{table_is_table}
use Rattle.model.proofs.Uses.{above_table}
use Rattle.model.specs.Layout.{Geometry, root}
use Rattle.model.specs.View.{View}
use Rattle.model.specs.Shape.{is_table, most_blocks}
use Rattle.model.specs.Uses.{IsClaim, blocks_of}
use Rattle.model.specs.Slots.{Empty, slot}
use Rattle.ordering.specs.Cuts.{Cell, Record, Block, Pending, users_view}
use Rattle.ordering.specs.OneSlot.{IsKnown}
use Rattle.frozen.specs.Kept.{Kept, KeepsMetadata, frozen_view}
use Rattle.machine.specs.Cells.{block_of}
use Rattle.machine.specs.Command.{Rename, Done}
use Rattle.machine.specs.Paths.{holder, last_part, number_at, parts_of, slot_at, walk}
use Rattle.machine.specs.Room.{has_room}
use Rattle.machine.specs.State.{State}
use Rattle.metadata.specs.Shown.{Shows}
use Rattle.plans_data.specs.Append.{Holder, KeptInRecord, KeptInTable, KeptInNew, IsKeptIn, blocks_on_way, new_blocks}
use Rattle.plans_data.proofs.Holders.{first_of, later_of, one_of_both, over_claimed}
use Rattle.plans_data.specs.Now.{now}
use Rattle.plans_naming.specs.Entries.{HasBlocks, HasOtherBlocks, slot_written}
use Rattle.plans_naming.specs.Grow.{empty_block, grown}
use Rattle.plans_naming.specs.Move.{left, moving, moving_grown}
use Rattle.plans_naming.specs.Plans.{entry_block, slot_block, move_plan, move_plan_grown}
use Rattle.courses.specs.After.{AreGroundsWith, IsBeforeEntry, IsNewCell}
use Rattle.courses.specs.Done.{IsDoneBy, InSlot, InNewBlock, MovesToSlot, MovesToNewBlock}
use Rattle.live_places.specs.Chosen.{IsPlace, IsEmptySlot, IsNewBlock}
use Rattle.live_places.specs.declared.choosing.Place.{Place}
use Rattle.live_places.specs.declared.choosing.Place.TheVariants.{Slot, NewBlock}
use Rattle.live_states.specs.Drafts.{Draft, over}
use Rattle.live_plans.specs.Entered.{EntersSlot, EntersNewBlock}
use Rattle.live_plans.proofs.NewBlocks.{are_apart}
use Rattle.live_renames.specs.declared.renaming.Ends.{Ends}
use Rattle.live_renames.specs.Refused.{AreEnds}
use Rattle.live_renames.specs.Moved.{AreFirst, IsMoved, cells_of}
use Rattle.live_renames.proofs.DoneLemmas.{holder_to, number_is, slot_is, block_is, says_it, apart_there}
use Rattle.live_renames.proofs.GroundLemmas.{grounds_with_there, pointers_of}

-- Numbers that are the same make the same updates.
module _ (view : View) (i n d h block b entered at s t : ℕ) where
  pub same_moving : i ≡ n → entered ≡ at → block ≡ b → s ≡ t → (s' : ℕ) (entry : List ℕ) (after' after : List Cell) (q : List Pending)
      → moving i (view.inode i) entered (view.bytes entered) s' entry after' block (view.bytes block) s after q
      ≡ moving n (view.inode n) at (view.bytes at) s' entry after' b (view.bytes b) t after q
  same_moving number place from slot s' entry after' after q =
      ap₂ (λ x y. moving x (view.inode x) y (view.bytes y) s' entry after' block (view.bytes block) s after q) number place
      ∙ ap₂ (λ x y. moving n (view.inode n) at (view.bytes at) s' entry after' x (view.bytes x) y after q) from slot

  pub same_moving_grown : (geo : Geometry) → i ≡ n → d ≡ h → block ≡ b → s ≡ t → (new : ℕ) (kept : Holder) (s' : ℕ) (entry : List ℕ) (after' after : List Cell) (q : List Pending)
      → moving_grown geo i (view.inode i) d (view.inode d) new kept s' entry after' block (view.bytes block) s after q
      ≡ moving_grown geo n (view.inode n) h (view.inode h) new kept s' entry after' b (view.bytes b) t after q
  same_moving_grown geo number directory from slot new kept s' entry after' after q =
      ap₂ (λ x y. moving_grown geo x (view.inode x) y (view.inode y) new kept s' entry after' block (view.bytes block) s after q) number directory
      ∙ ap₂ (λ x y. moving_grown geo n (view.inode n) h (view.inode h) new kept s' entry after' x (view.bytes x) y after q) from slot

-- The cells of a new block are that block and the new tables.
are_tables : (b : ℕ) (kept : Holder) (xs : List ℕ) → ((x : ℕ) → Contains xs x → Contains (new_blocks kept) x) → All (IsNewCell b kept) (map Block xs)
are_tables b kept [] among = All-nil (IsNewCell b kept)
are_tables b kept (x ∷ xs) among =
    All-cons (IsNewCell b kept) (Block x) (map Block xs) (inr (x, among x (first_of x xs), refl)) (are_tables b kept xs (λ y c. among y (later_of x xs y c)))

are_new_cells : (b : ℕ) (kept : Holder) (tables : List ℕ) → new_blocks kept ≡ tables → All (IsNewCell b kept) (cells_of (NewBlock b tables))
are_new_cells b kept tables is = All-cons (IsNewCell b kept) (Block b) (map Block tables) (inl refl) (are_tables b kept tables (λ x c. subst (λ xs. Contains xs x) (sym is) c))

-- each table on the way to the record is new, or the directory claims it
on_way : (geo : Geometry) (view : View) (d k b : ℕ) (h : Holder) → IsKeptIn geo view d k b h → (x : ℕ) → Contains (blocks_on_way h) x
    → Contains (new_blocks h) x ⊎ ((m : ℕ) × IsTrue (is_table geo m) × IsClaim geo view d m x)
on_way geo view d k b KeptInRecord keeps x c = inl c
on_way geo view d k b (KeptInTable m y table over) keeps x c = elim (one_of_both y over x c) [
  | inl e ↦ inr (m, le-leb (most_blocks geo) m (table_is_table geo k m keeps.0), subst (λ z. IsClaim geo view d m z) e keeps.1)
  | inr up ↦ let r = over_claimed geo view d k b m y table over keeps x up in inr (r.0, above_table geo m r.0 r.1, r.2)
]
on_way geo view d k b (KeptInNew m y table up) keeps x c = elim (one_of_both y (blocks_on_way up) x c) [
  | inl e ↦ inl (subst (λ z. Contains (y ∷ new_blocks up) z) e (first_of y (new_blocks up)))
  | inr rest ↦ elim (on_way geo view d m y up keeps.3 x rest) [ inl new ↦ inl (later_of y (new_blocks up) x new) | inr was ↦ inr was ]
]

module _ (kept : Kept) (keeps : KeepsMetadata kept) (p q : List ℕ) (ps qs : List (List ℕ)) (e : parts_of p ≡ Some ps) (f : parts_of q ≡ Some qs) (ends : Ends) (disk : View) (pending : List Pending) (old : State) (safe : ℕ → Bool)
    (are : AreEnds kept.geometry (users_view disk pending) ps qs ends) (way : walk kept.geometry (frozen_view kept) root qs ≡ Ok ends.directory)
    (shows : Shows kept (users_view disk pending)) (apart : ends.found.directory ≡ ends.directory → ⊥) (draft : Draft) where
  abbrev geo : Geometry
  geo = kept.geometry

  abbrev view : View
  view = users_view disk pending

  abbrev IsDone : ℕ → List Pending → Type 0
  IsDone file plan = IsDoneBy geo disk pending old safe (Rename p q) Done file plan (now disk plan old) safe

  done_with : (file : ℕ) (plan : List Pending) → draft.file ≡ file → over pending draft.updates ≡ plan → IsDone file plan → IsDone draft.file (over pending draft.updates)
  done_with file plan file_is plan_is done = subst (λ n. IsDone n (over pending draft.updates)) (sym file_is) (subst (λ u. IsDone file u) (sym plan_is) done)

  number : number_at geo view p ≡ ends.found.number
  number = number_is geo p q ps qs e f ends view are

  to : holder geo view q ≡ ends.directory
  to = holder_to geo p q ps qs e f ends view are

  grounds_there : (place : Place) (after : List Cell) → AreFirst geo (frozen_view kept) qs place after → (is_new : Cell → Type 0) → All is_new (cells_of place)
      → AreGroundsWith geo view ends.directory (entry_block geo view p) is_new after
  grounds_there place after first is_new new = grounds_with_there kept view keeps shows is_new (cells_of place) after ends.directory (entry_block geo view p) new (first.grounds ends.directory way)

  grounds : (place : Place) (after : List Cell) → AreFirst geo (frozen_view kept) qs place after → (is_new : Cell → Type 0) → All is_new (cells_of place)
      → AreGroundsWith geo view (holder geo view q) (entry_block geo view p) is_new after
  grounds place after first is_new new = subst (λ d. AreGroundsWith geo view d (entry_block geo view p) is_new after) (sym to) (grounds_there place after first is_new new)

  only_entry : (after : List Cell) → All (IsBeforeEntry geo view ends.directory ends.found.number) after → All (IsBeforeEntry geo view (holder geo view q) (number_at geo view p)) after
  only_entry after only =
      subst (λ n. All (IsBeforeEntry geo view (holder geo view q) n) after) (sym number) (subst (λ d. All (IsBeforeEntry geo view d ends.found.number) after) (sym to) only)

  -- ---- into an empty slot
  module _ (s block : ℕ) (empty : IsEmptySlot geo view ends.directory s block) (is : IsMoved kept ends qs (Slot s block) draft) where
    enters : EntersSlot geo view ends.directory ends.found.number (last_part qs) s block is.with_link is.entered
    enters = is.enters view shows

    at : block ≡ slot_block geo view q s
    at = sym (ap (λ d. block_of geo view d (s / 16)) to ∙ ap (λ o. unwrap_or o 0) empty.stands)

    abbrev IsEntry : Cell → Type 0
    IsEntry c = c ≡ Block (slot_block geo view q s)

    in_slot : InSlot geo view q (number_at geo view p) s enters.entry enters.after
    in_slot = record {
      empty = subst (λ d. slot geo view d s ≡ Empty) (sym to) empty.empty;
      says = says_it geo p q ps qs e f ends view are enters.entry enters.says;
      record_first = subst (λ n. Contains enters.after (Record n)) (sym number) enters.record_first;
      others_first = subst (λ d. HasOtherBlocks geo view d (slot_block geo view q s) enters.after) (sym to) (subst (λ b. HasOtherBlocks geo view ends.directory b enters.after) at enters.others_first);
      only = only_entry enters.after enters.only;
    }

    over_is : over pending draft.updates ≡ move_plan geo view p q s enters.entry enters.after is.after pending
    over_is =
        (is.leaves view shows).pending pending
        ∙ ap (left ends.found.number (view.inode ends.found.number) ends.found.block (view.bytes ends.found.block) ends.found.slot is.after)
        (enters.goes_on.pending pending ∙ ap (λ u. slot_written block (view.bytes block) s enters.entry enters.after ∷ u) (is.raises view shows pending))
        ∙ same_moving view ends.found.number (number_at geo view p) 0 0 ends.found.block (entry_block geo view p) block (slot_block geo view q s) ends.found.slot (slot_at geo view p)
        (sym number) at (sym (block_is geo p q ps qs e f ends view are)) (sym (slot_is geo p q ps qs e f ends view are)) s enters.entry enters.after is.after pending

    moved_to_slot : IsDone draft.file (over pending draft.updates)
    moved_to_slot =
        done_with (number_at geo view p) (move_plan geo view p q s enters.entry enters.after is.after pending) (is.file ∙ sym number) over_is
        (MovesToSlot p q s enters.entry enters.after is.after (apart_there geo p q ps qs e f ends view are apart) in_slot
        (subst (λ b. Contains is.after (Block b)) at is.first.place_first) (grounds (Slot s block) is.after is.first IsEntry (All-cons IsEntry (Block block) [] (ap Block at) (All-nil IsEntry))))

  -- ---- into a new block
  module _ (block : ℕ) (tables : List ℕ) (new : IsNewBlock geo view ends.directory block tables) (is : IsMoved kept ends qs (NewBlock block tables) draft) where
    enters_new : EntersNewBlock geo view ends.directory (view.inode ends.directory) ends.found.number (last_part qs) block tables is.with_link is.entered
    enters_new = is.enters view shows

    abbrev IsNew : Cell → Type 0
    IsNew = IsNewCell block enters_new.kept

    new_cells : All IsNew (cells_of (NewBlock block tables))
    new_cells = are_new_cells block enters_new.kept tables enters_new.tables

    tables_first : (x : ℕ) → Contains (blocks_on_way enters_new.kept) x → IsKnown is.after (entry_block geo view p) (Block x)
    tables_first x c = elim (on_way geo view ends.directory (blocks_of (view.inode ends.directory).size) block enters_new.kept enters_new.keeps x c) [
      | inl fresh ↦ inl (is.first.place_first.1 x (subst (λ xs. Contains xs x) enters_new.tables fresh))
      | inr was ↦ pointers_of geo view is.after (entry_block geo view p) ends.directory (grounds_there (NewBlock block tables) is.after is.first IsNew new_cells).needs was.0 x was.1 was.2
    ]

    in_new_block : InNewBlock geo view q (number_at geo view p) block enters_new.kept enters_new.slot enters_new.entry enters_new.after
    in_new_block = record {
      full = subst (λ d. IsFalse (has_room geo view d)) (sym to) new.none;
      free = new.choice.free;
      keeps = subst (λ d. IsKeptIn geo view d (blocks_of (view.inode d).size) block enters_new.kept) (sym to) enters_new.keeps;
      apart = are_apart geo view (blocks_of (view.inode ends.directory).size) block tables enters_new.kept enters_new.tables new.choice;
      stands = subst (λ d. enters_new.slot / 16 ≡ blocks_of (view.inode d).size) (sym to) enters_new.stands;
      says = says_it geo p q ps qs e f ends view are enters_new.entry enters_new.says;
      record_first = subst (λ n. Contains enters_new.after (Record n)) (sym number) enters_new.record_first;
      blocks_first = subst (λ d. HasBlocks geo view d enters_new.after) (sym to) enters_new.blocks_first;
      only = only_entry enters_new.after enters_new.only;
    }

    over_grown : over pending draft.updates ≡ move_plan_grown geo view p q block enters_new.kept enters_new.slot enters_new.entry enters_new.after is.after pending
    over_grown =
        (is.leaves view shows).pending pending
        ∙ ap (left ends.found.number (view.inode ends.found.number) ends.found.block (view.bytes ends.found.block) ends.found.slot is.after)
        (enters_new.goes_on.pending pending
        ∙ ap (λ u. slot_written block empty_block enters_new.slot enters_new.entry enters_new.after ∷ grown geo ends.directory (view.inode ends.directory) block enters_new.kept u) (is.raises view shows pending))
        ∙ same_moving_grown view ends.found.number (number_at geo view p) ends.directory (holder geo view q) ends.found.block (entry_block geo view p) 0 0 ends.found.slot (slot_at geo view p)
        geo (sym number) (sym to) (sym (block_is geo p q ps qs e f ends view are)) (sym (slot_is geo p q ps qs e f ends view are))
        block enters_new.kept enters_new.slot enters_new.entry enters_new.after is.after pending

    moved_to_new_block : IsDone draft.file (over pending draft.updates)
    moved_to_new_block =
        done_with (number_at geo view p) (move_plan_grown geo view p q block enters_new.kept enters_new.slot enters_new.entry enters_new.after is.after pending) (is.file ∙ sym number) over_grown
        (MovesToNewBlock p q block enters_new.kept enters_new.slot enters_new.entry enters_new.after is.after (apart_there geo p q ps qs e f ends view are apart) in_new_block
        is.first.place_first.0 (grounds (NewBlock block tables) is.after is.first IsNew new_cells) tables_first)

  -- ---- either
  pub moved_done : (place : Place) → IsPlace geo view ends.directory place → IsMoved kept ends qs place draft → IsDone draft.file (over pending draft.updates)
  moved_done (Slot s block) at is = moved_to_slot s block at is
  moved_done (NewBlock block tables) at is = moved_to_new_block block tables at is
