-- The plans of the commands that change names give new metadata its bytes.
use Rattle.std.proofs.Common.{◌≡◌, ◌+◌, ◌-◌, ◌/◌, ℕ, true, false, List, [], ◌∷◌, inl, inr, refl, sym, ap, ◌∙◌, subst, IsTrue, IsFalse, arith}
use Rattle.std.proofs.lemmas.Bool.{cases_lt, and_parts, both_ways, leb-true}
use Rattle.model.specs.Layout.{Geometry}
use Rattle.model.specs.View.{View, Inode, free_inode}
use Rattle.model.specs.Cells.{SetInode, SetNumber, SetBlock, SetBytes}
use Rattle.model.specs.Shape.{most_blocks, is_table}
use Rattle.model.specs.Uses.{blocks_of, is_sound_at, is_directory, IsClaim}
use Rattle.model.specs.Reach.{IsReachableDirectory}
use Rattle.model.specs.Rules.{ObeysRules}
use Rattle.model.specs.Slots.{Slot, Empty, Good, slot}
use Rattle.model.proofs.SlotLemmas.{reachable_directory, directory_number}
use Rattle.ordering.specs.Cuts.{Cell, Record, NumberBit, BlockBit, Block, Pending, users_view}
use Rattle.ordering.proofs.Data.{directory_mode}
use Rattle.machine.specs.Cells.{with_slot}
use Rattle.machine.specs.Effects.{file_with, with_links, new_directory}
use Rattle.plans_data.specs.Append.{Holder, KeptInRecord, KeptInTable, KeptInNew, IsKeptIn, IsNoneOf, new_blocks, linked, pointed, sized, filled}
use Rattle.plans_data.specs.Freeing.{cleared, freeing}
use Rattle.plans_naming.specs.Entries.{StandsAt, slot_written, no_entry}
use Rattle.plans_naming.specs.Grow.{CanGrow, CanEnterGrown, empty_block, grown}
use Rattle.plans_naming.specs.Create.{CanCreate, CanCreateGrown, born, creating, creating_grown}
use Rattle.plans_naming.specs.Link.{CanLink, CanLinkGrown, raised, linking, linking_grown}
use Rattle.plans_naming.specs.Make.{CanMake, CanMakeIn, CanMakeGrown, made, making, making_grown}
use Rattle.plans_naming.specs.Move.{CanMove, CanMoveGrown, left, moving, moving_grown}
use Rattle.plans_naming.specs.RemoveDirectory.{CanRemove, removing, removing_name}
use Rattle.plans_naming.specs.Rename.{CanRename, renaming}
use Rattle.plans_naming.specs.Unlink.{CanUnlink, lowered, unlinking, unlinking_last}
use Rattle.model.proofs.Shape.{many_blocks}
use Rattle.model.proofs.Uses.{has_below}
use Rattle.model.proofs.Places.{put_here, put_there, put_same}
use Rattle.machine.proofs.Records.{new_directory_uses}
use Rattle.kept_claims.proofs.Since.{Since, nothing, At, Or, NotNew, start as nothing_yet, number_on, block_on, bytes_on, given_on, record_since, links_on, empty_on, freeing_on, no_table, unmarked_no_table, data_no_table}
use Rattle.kept_claims.proofs.Grows.{Gets, Grown, linked_once, not_grown}

-- a block that is claimed is no new table
not_claimed : (geo : Geometry) (v : View) → ObeysRules geo v → (n k b : ℕ) (holder : Holder) → IsKeptIn geo v n k b holder → (d j c : ℕ) → IsClaim geo v d j c → IsNoneOf c (new_blocks holder)
not_claimed geo v rules n k b KeptInRecord kept d j c claim = tt
not_claimed geo v rules n k b (KeptInTable m x table over) kept d j c claim = tt
not_claimed geo v rules n k b (KeptInNew m x table up) kept d j c claim = (
  λ e. both_ways (v.block_marked c) (subst (λ y. IsFalse (v.block_marked y)) e kept.2.free.unmarked) (rules.rule3.marked d j c claim),
  not_claimed geo v rules n m x up kept.3 d j c claim,
)

-- linking leaves the records
linked_records : (geo : Geometry) (disk : View) (n k b : ℕ) (h : Holder) (p : List Pending) → (users_view disk (linked geo n k b h p)).inode ≡ (users_view disk p).inode
linked_records geo disk n k b KeptInRecord p = refl
linked_records geo disk n k b (KeptInTable m x table over) p = refl
linked_records geo disk n k b (KeptInNew m x table up) p =
    linked_records geo disk n m x up (record { change = SetBytes x table; after = BlockBit x ∷ Block b ∷ [] } ∷ record { change = SetBlock x true; after = [] } ∷ p)

-- clearing bits leaves the records
cleared_records : (disk : View) (n : ℕ) (blocks : List ℕ) (p : List Pending) → (users_view disk (cleared n blocks p)).inode ≡ (users_view disk p).inode
cleared_records disk n [] p = refl
cleared_records disk n (b ∷ bs) p = cleared_records disk n bs (record { change = SetBlock b false; after = Record n ∷ [] } ∷ p)

module _ (geo : Geometry) (disk : View) (q : List Pending) (rules : ObeysRules geo (users_view disk q)) where
  abbrev start : View
  start = users_view disk q

  reachable_mode : (d : ℕ) → IsReachableDirectory geo start d → (start.inode d).mode ≡ 2
  reachable_mode d r = directory_mode geo start d (reachable_directory geo start d r)

  -- a file is no directory, and a free number none
  not_file : (i d : ℕ) → (start.inode i).mode ≡ 1 → IsReachableDirectory geo start d → d ≡ i → ⊥
  not_file i d one r e = let same = ap (λ j. (start.inode j).mode) e in let two = reachable_mode d r in omega (arith, one, two, same)

  not_free : (n d : ℕ) → IsFalse (start.number_marked n) → IsReachableDirectory geo start d → d ≡ n → ⊥
  not_free n d free r e =
      let two = reachable_mode d r in
      both_ways (start.number_marked d) (subst (λ m. IsFalse (start.number_marked m)) (sym e) free)
      (rules.rule4 d (directory_number geo start d (reachable_directory geo start d r)) (λ z. omega (arith, z, two)))

  -- ---- pieces

  slot_on : (p : List Pending) (new : ℕ → ℕ → Type 0) → Since geo disk q p new → (d s block : ℕ) (what : Slot) → StandsAt geo start d s block what → NotNew geo new block
      → (bytes : List ℕ) (t : ℕ) (entry : List ℕ) (after : List Cell) → Since geo disk q (slot_written block bytes t entry after ∷ p) new
  slot_on p new s d t block what place other bytes u entry after =
      bytes_on geo disk q p new s block (with_slot bytes u entry) after (no_table geo disk q p new s block (data_no_table geo start rules d (t / 16) block place.below place.claim) other)

  gets : (d b : ℕ) (holder : Holder) → IsReachableDirectory geo start d → CanGrow geo start d b holder → Gets geo start d (blocks_of (start.inode d).size) b ((start.inode d).size + 1024) holder
  gets d b holder r can = record {
    whole = can.whole;
    sound = (and_parts (is_sound_at geo start d) (is_directory (start.inode d)) (reachable_directory geo start d r)).0;
    room = can.room;
    free = can.free;
    kept = can.kept;
    apart = can.apart;
    untouched = λ has is. let below = has_below geo (start.inode d) (blocks_of (start.inode d).size) can.room has in omega (arith, below);
    more = omega arith;
    inside = omega arith;
    few = let room = can.room in omega (arith, room);
    came = λ j less. elim (cases_lt j (blocks_of (start.inode d).size)) [ inl low ↦ inl low | inr high ↦ inr (omega (arith, high, less)) ];
  }

  -- directory d grows, and slot s of its new block is written
  module _ (p : List Pending) (new : ℕ → ℕ → Type 0) (s : Since geo disk q p new) (none : (l c : ℕ) → IsTrue (is_table geo l) → new l c → ⊥) (d l b : ℕ) (holder : Holder) (t : ℕ) (name : List ℕ) (after : List Cell)
      (can : CanEnterGrown geo start d b holder t name after) (here : (users_view disk p).inode d ≡ with_links (start.inode d) l)
      (holds : (m x : ℕ) → IsTrue (is_table geo m) → IsClaim geo start d m x → (users_view disk p).bytes x ≡ start.bytes x) where
    abbrev size : ℕ
    size = (start.inode d).size

    -- a block that is none of the new tables
    not_new : (c : ℕ) → IsNoneOf c (new_blocks holder) → NotNew geo (Grown new (blocks_of size) b holder) c
    not_new c apart j table n = not_grown (Or new (At (blocks_of size) b)) holder c j apart (λ m. elim m [
      | inl old ↦ none j c table old
      | inr at ↦ let high = leb-true (most_blocks geo) j table in let room = can.grow.room in omega (arith, at.0, high, room)
    ]) n

    grown_on : Since geo disk q (grown geo d (with_links (start.inode d) l) b holder p) (Grown new (blocks_of size) b holder)
    grown_on = linked_once geo disk q rules p new s none d l (blocks_of size) b (size + 1024) empty_block holder here (gets d b holder can.reachable can.grow) holds

    entered_on : (entry : List ℕ) (after' : List Cell) → Since geo disk q (slot_written b empty_block t entry after' ∷ grown geo d (with_links (start.inode d) l) b holder p) (Grown new (blocks_of size) b holder)
    entered_on entry after' = bytes_on geo disk q (grown geo d (with_links (start.inode d) l) b holder p) (Grown new (blocks_of size) b holder) grown_on b (with_slot empty_block t entry) after'
        (no_table geo disk q (grown geo d (with_links (start.inode d) l) b holder p) (Grown new (blocks_of size) b holder) grown_on b (unmarked_no_table geo start rules b can.grow.free.unmarked) (not_new b can.grow.apart.0))

  born_on : (n : ℕ) (words : List ℕ) → Since geo disk q (born n (file_with words) [] q) nothing
  born_on n words =
      let s = number_on geo disk q q nothing (nothing_yet geo disk q) n true [] in
      empty_on geo disk q (record { change = SetNumber n true; after = [] } ∷ q) nothing s n (file_with words) (NumberBit n ∷ []) refl

  raised_on : (i : ℕ) → Since geo disk q (raised i (start.inode i) q) nothing
  raised_on i = links_on geo disk q q nothing (nothing_yet geo disk q) i (with_links (start.inode i) ((start.inode i).links + 1)) [] ((start.inode i).links + 1) refl

  -- ---- commands

  pub creating_since : (n : ℕ) (words : List ℕ) (d s block : ℕ) (name entry : List ℕ) (after : List Cell) → CanCreate geo start n d s block name entry after → Since geo disk q (creating n words block (start.bytes block) s entry after q) nothing
  creating_since n words d s block name entry after can = slot_on (born n (file_with words) [] q) nothing (born_on n words) d s block Empty can.place (λ j table m. m) (start.bytes block) s entry after

  pub creating_grown_since : (n : ℕ) (words : List ℕ) (d b : ℕ) (kept : Holder) (s : ℕ) (name entry : List ℕ) (after : List Cell) → CanCreateGrown geo start n d b kept s name entry after
      → Since geo disk q (creating_grown geo n words d (start.inode d) b kept s entry after q) (Grown nothing (blocks_of (start.inode d).size) b kept)
  creating_grown_since n words d b kept s name entry after can =
      entered_on (born n (file_with words) [] q) nothing (born_on n words) (λ j c table m. m) d (start.inode d).links b kept s name after can.enter
      (put_there start.inode n d (file_with words) (not_free n d can.unmarked can.enter.reachable)) (λ m x table c. refl) entry after

  pub linking_since : (i d s block : ℕ) (name entry : List ℕ) (after : List Cell) → CanLink geo start i d s block name entry after → Since geo disk q (linking i (start.inode i) block (start.bytes block) s entry after q) nothing
  linking_since i d s block name entry after can = slot_on (raised i (start.inode i) q) nothing (raised_on i) d s block Empty can.place (λ j table m. m) (start.bytes block) s entry after

  pub linking_grown_since : (i d b : ℕ) (kept : Holder) (s : ℕ) (name entry : List ℕ) (after : List Cell) → CanLinkGrown geo start i d b kept s name entry after
      → Since geo disk q (linking_grown geo i (start.inode i) d (start.inode d) b kept s entry after q) (Grown nothing (blocks_of (start.inode d).size) b kept)
  linking_grown_since i d b kept s name entry after can =
      entered_on (raised i (start.inode i) q) nothing (raised_on i) (λ j c table m. m) d (start.inode d).links b kept s name after can.enter
      (put_there start.inode i d (with_links (start.inode i) ((start.inode i).links + 1)) (not_file i d can.file can.enter.reachable)) (λ m x table c. refl) entry after

  pub unlinking_since : (i d s block : ℕ) (name : List ℕ) → CanUnlink geo start i d s block name → Since geo disk q (unlinking i (start.inode i) block (start.bytes block) s q) nothing
  unlinking_since i d s block name can =
      let f = slot_on q nothing (nothing_yet geo disk q) d s block (Good i name) can.place (λ j table m. m) (start.bytes block) s no_entry [] in
      links_on geo disk q (slot_written block (start.bytes block) s no_entry [] ∷ q) nothing f i (with_links (start.inode i) ((start.inode i).links - 1)) (Block block ∷ []) ((start.inode i).links - 1) refl

  pub unlinking_last_since : (i d s block : ℕ) (name : List ℕ) (blocks : List ℕ) → CanUnlink geo start i d s block name → Since geo disk q (unlinking_last i blocks block (start.bytes block) s q) nothing
  unlinking_last_since i d s block name blocks can =
      freeing_on geo disk q i blocks (Block block ∷ []) (slot_written block (start.bytes block) s no_entry [] ∷ q) nothing
      (slot_on q nothing (nothing_yet geo disk q) d s block (Good i name) can.place (λ j table m. m) (start.bytes block) s no_entry [])

  -- a new directory, whose block is a
  made_on : (i a : ℕ) (words dots : List ℕ) (d : ℕ) → CanMake geo start i a d dots → Since geo disk q (made i a words dots d (start.inode d) q) (Or nothing (At 0 a))
  made_on i a words dots d can =
      let s1 = number_on geo disk q q nothing (nothing_yet geo disk q) i true [] in
      let s2 = block_on geo disk q (record { change = SetNumber i true; after = [] } ∷ q) nothing s1 a true [] in
      let p2 : List Pending = record { change = SetBlock a true; after = [] } ∷ record { change = SetNumber i true; after = [] } ∷ q in
      let s3 = links_on geo disk q p2 nothing s2 d (with_links (start.inode d) ((start.inode d).links + 1)) [] ((start.inode d).links + 1) refl in
      let p3 = raised d (start.inode d) p2 in
      let s4 = given_on geo disk q p3 nothing s3 a dots (BlockBit a ∷ Record d ∷ []) (At 0 a) (λ k c m. m.1) (no_table geo disk q p3 nothing s3 a (unmarked_no_table geo start rules a can.block_unmarked) (λ j table m. m)) in
      let p4 : List Pending = record { change = SetBytes a dots; after = BlockBit a ∷ Record d ∷ [] } ∷ p3 in
      record_since geo disk q p4 (Or nothing (At 0 a)) s4 i (new_directory a words) (NumberBit i ∷ Block a ∷ []) (λ k c m. inr (inr (new_directory_uses geo (users_view disk p4) a words k c m.uses)))

  -- which is no table
  made_not_new : (a l c : ℕ) → IsTrue (is_table geo l) → Or nothing (At 0 a) l c → ⊥
  made_not_new a l c table (inl o) = o
  made_not_new a l c table (inr at) = let high = leb-true (most_blocks geo) l table in let many = many_blocks geo in omega (arith, at.0, high, many)

  pub making_since : (i a : ℕ) (words dots : List ℕ) (d s block : ℕ) (name entry : List ℕ) (after : List Cell) → CanMakeIn geo start i a dots d s block name entry after
      → Since geo disk q (making i a words dots d (start.inode d) block (start.bytes block) s entry after q) (Or nothing (At 0 a))
  making_since i a words dots d s block name entry after can =
      slot_on (made i a words dots d (start.inode d) q) (Or nothing (At 0 a)) (made_on i a words dots d can.make) d s block Empty can.place
      (λ j table m. made_not_new a j block table m) (start.bytes block) s entry after

  pub making_grown_since : (i a : ℕ) (words dots : List ℕ) (d b : ℕ) (kept : Holder) (s : ℕ) (name entry : List ℕ) (after : List Cell) → CanMakeGrown geo start i a dots d b kept s name entry after
      → Since geo disk q (making_grown geo i a words dots d (start.inode d) b kept s entry after q) (Grown (Or nothing (At 0 a)) (blocks_of (start.inode d).size) b kept)
  making_grown_since i a words dots d b kept s name entry after can =
      entered_on (made i a words dots d (start.inode d) q) (Or nothing (At 0 a)) (made_on i a words dots d can.make) (made_not_new a)
      d ((start.inode d).links + 1) b kept s name after can.enter
      (put_there (users_view disk (raised d (start.inode d) q)).inode i d (new_directory a words) (not_free i d can.make.unmarked can.enter.reachable) ∙ put_here start.inode d (with_links (start.inode d) ((start.inode d).links + 1)))
      (λ m x table c. put_there start.bytes a x dots (λ e. both_ways (start.block_marked a) can.make.block_unmarked (rules.rule3.marked d m a (subst (λ y. IsClaim geo start d m y) e c)))) entry after

  -- the slot of a directory that is removed is emptied
  emptied_on : (i b d s block : ℕ) (name : List ℕ) (after : List Cell) → CanRemove geo start i b d s block name after → Since geo disk q (slot_written block (start.bytes block) s no_entry after ∷ q) nothing
  emptied_on i b d s block name after can = slot_on q nothing (nothing_yet geo disk q) d s block (Good i name) can.place (λ j table m. m) (start.bytes block) s no_entry after

  pub removing_since : (i b d s block : ℕ) (name : List ℕ) (after : List Cell) (blocks : List ℕ) → CanRemove geo start i b d s block name after
      → Since geo disk q (removing i blocks d (start.inode d) block (start.bytes block) s after q) nothing
  removing_since i b d s block name after blocks can =
      links_on geo disk q (freeing i blocks (Block block ∷ []) p1) nothing (freeing_on geo disk q i blocks (Block block ∷ []) p1 nothing (emptied_on i b d s block name after can))
      d (with_links (start.inode d) ((start.inode d).links - 1)) (Block block ∷ []) ((start.inode d).links - 1) (ap (λ y. with_links y ((start.inode d).links - 1)) (sym is))
    where
      -- an empty directory does not hold its own entry
      apart : d ≡ i → ⊥
      apart e = can.empty s i can.place.after_dots (name, subst (λ n. slot geo start n s ≡ Good i name) e can.place.holds)

      p1 : List Pending
      p1 = slot_written block (start.bytes block) s no_entry after ∷ q

      is : (users_view disk (freeing i blocks (Block block ∷ []) p1)).inode d ≡ start.inode d
      is = ap (λ (f : ℕ → Inode). f d) (cleared_records disk i blocks (record { change = SetNumber i false; after = Record i ∷ [] } ∷ record { change = SetInode i free_inode; after = Block block ∷ [] } ∷ p1))
          ∙ put_there start.inode i d free_inode apart

  pub removing_name_since : (i b d s block : ℕ) (name : List ℕ) (after : List Cell) → CanRemove geo start i b d s block name after
      → Since geo disk q (removing_name i (start.inode i) d (start.inode d) block (start.bytes block) s after q) nothing
  removing_name_since i b d s block name after can =
      let p1 : List Pending = slot_written block (start.bytes block) s no_entry after ∷ q in
      let x = with_links (start.inode i) ((start.inode i).links - 2) in
      let s2 = links_on geo disk q p1 nothing (emptied_on i b d s block name after can) i (with_links (start.inode i) ((start.inode i).links - 2)) (Block block ∷ []) ((start.inode i).links - 2) refl in
      links_on geo disk q (lowered i (start.inode i) 2 block p1) nothing s2 d (with_links (start.inode d) ((start.inode d).links - 1)) (Block block ∷ []) ((start.inode d).links - 1)
      (put_same start.inode i x (λ m y. with_links y ((start.inode d).links - 1)) refl d)

  pub renaming_since : (i d s block : ℕ) (name other entry : List ℕ) (after : List Cell) → CanRename geo start i d s block name other entry after → Since geo disk q (renaming block (start.bytes block) s entry after q) nothing
  renaming_since i d s block name other entry after can = slot_on q nothing (nothing_yet geo disk q) d s block (Good i name) can.place (λ j table m. m) (start.bytes block) s entry after

  -- the old slot is emptied, and then the file has its old record again
  left_on : (p : List Pending) (new : ℕ → ℕ → Type 0) → Since geo disk q p new → (i d s block : ℕ) (name : List ℕ) (after : List Cell) → StandsAt geo start d s block (Good i name) → NotNew geo new block
      → (users_view disk p).inode i ≡ with_links (start.inode i) ((start.inode i).links + 1) → Since geo disk q (left i (start.inode i) block (start.bytes block) s after p) new
  left_on p new f i d s block name after place other is =
      links_on geo disk q (slot_written block (start.bytes block) s no_entry after ∷ p) new (slot_on p new f d s block (Good i name) place other (start.bytes block) s no_entry after)
      i (start.inode i) (Block block ∷ []) (start.inode i).links (sym (ap (λ y. with_links y (start.inode i).links) is))

  pub moving_since : (i d' s' block' : ℕ) (name' entry : List ℕ) (after' : List Cell) (d s block : ℕ) (name : List ℕ) (after : List Cell) → CanMove geo start i d' s' block' name' entry after' d s block name after
      → Since geo disk q (moving i (start.inode i) block' (start.bytes block') s' entry after' block (start.bytes block) s after q) nothing
  moving_since i d' s' block' name' entry after' d s block name after can =
      left_on (linking i (start.inode i) block' (start.bytes block') s' entry after' q) nothing (linking_since i d' s' block' name' entry after' can.to) i d s block name after can.from (λ j table m. m)
      (put_here start.inode i (with_links (start.inode i) ((start.inode i).links + 1)))

  -- a directory that grows leaves other records
  other_record : (i d : ℕ) (parent : Inode) (b : ℕ) (holder : Holder) (p : List Pending) → (i ≡ d → ⊥) → (users_view disk (grown geo d parent b holder p)).inode i ≡ (users_view disk p).inode i
  other_record i d parent b holder p other =
      put_there (users_view disk (linked geo d (blocks_of parent.size) b holder (filled b empty_block p))).inode d i (sized (pointed geo parent (blocks_of parent.size) b holder) (parent.size + 1024)) other
      ∙ ap (λ (f : ℕ → Inode). f i) (linked_records geo disk d (blocks_of parent.size) b holder (filled b empty_block p))

  pub moving_grown_since : (i d' b : ℕ) (kept : Holder) (s' : ℕ) (name' entry : List ℕ) (after' : List Cell) (d s block : ℕ) (name : List ℕ) (after : List Cell) → CanMoveGrown geo start i d' b kept s' name' entry after' d s block name after
      → Since geo disk q (moving_grown geo i (start.inode i) d' (start.inode d') b kept s' entry after' block (start.bytes block) s after q) (Grown nothing (blocks_of (start.inode d').size) b kept)
  moving_grown_since i d' b kept s' name' entry after' d s block name after can =
      let can_grow = can.to.enter.grow in
      left_on (linking_grown geo i (start.inode i) d' (start.inode d') b kept s' entry after' q) (Grown nothing (blocks_of (start.inode d').size) b kept) (linking_grown_since i d' b kept s' name' entry after' can.to) i d s block name after can.from
      (not_new (raised i (start.inode i) q) nothing (raised_on i) (λ j c table m. m) d' (start.inode d').links b kept s' name' after' can.to.enter
      (put_there start.inode i d' (with_links (start.inode i) ((start.inode i).links + 1)) (not_file i d' can.to.file can.to.enter.reachable)) (λ m x table c. refl)
      block (not_claimed geo start rules d' (blocks_of (start.inode d').size) b kept can_grow.kept d (s / 16) block can.from.claim))
      (other_record i d' (start.inode d') b kept (raised i (start.inode i) q) (λ e. not_file i d' can.to.file can.to.enter.reachable (sym e)) ∙ put_here start.inode i (with_links (start.inode i) ((start.inode i).links + 1)))
