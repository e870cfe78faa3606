-- What the commands ask for holds where no cause refuses them.
use Rattle.std.proofs.Common.{◌≡◌, ◌≤◌, ◌/◌, ℕ, Bool, true, false, not, ◌&&◌, eqb, leb, List, ◌∷◌, refl, sym, ap, subst, arith, IsTrue, IsFalse, Ok, Contains, ne_eqb, le-leb}
use Rattle.std.specs.List.{list_all}
use Rattle.std.proofs.lemmas.Bool.{both_ways, and_from}
use Rattle.model.specs.Layout.{Geometry, IsGeometry}
use Rattle.model.specs.View.{View}
use Rattle.model.specs.Uses.{is_directory_at, blocks_of}
use Rattle.model.specs.Slots.{Empty, Good, slot, number_in, Names}
use Rattle.model.specs.Reach.{IsReachable, slot_count}
use Rattle.model.proofs.ReachLemmas.{directory_reached}
use Rattle.model.proofs.SlotLemmas.{slot_content, names_stands, number_from_names, number_low}
use Rattle.ordering.specs.Cuts.{Cell, Record, Block}
use Rattle.ordering.specs.OneSlot.{IsKnown}
use Rattle.layout.specs.declared.refusal.Refusal.TheVariants.{IsDirectory, NotDirectory, NotEmpty}
use Rattle.machine.specs.State.{State}
use Rattle.machine.specs.Command.{Create, Mkdir, Link, Unlink, Rmdir, Rename}
use Rattle.machine.specs.Paths.{is_part, parts, holder, name_in, number_at, slot_at, target}
use Rattle.machine.specs.Room.{IsFreeNumber, IsFreeBlock, has_room}
use Rattle.machine.specs.Cells.{IsEntryFor, block_of}
use Rattle.machine.specs.Causes.{Accepts, causes, has_names, full, not_file}
use Rattle.machine.specs.Effects.{AreDots}
use Rattle.machine.specs.Balance.{Balance}
use Rattle.machine.proofs.Decisions.{any_here}
use Rattle.machine.proofs.Holders.{new_place, good_parts}
use Rattle.machine.proofs.Renaming.{place_at}
use Rattle.machine.proofs.Walks.{Quiet, quiet, when_none, no_error, target_reachable}
use Rattle.plans_data.specs.Append.{Holder, IsWhole, IsKeptIn, AreApart, new_blocks, blocks_on_way}
use Rattle.plans_naming.specs.Entries.{TakesName, HasBlocks, HasOtherBlocks}
use Rattle.plans_naming.specs.Grow.{AreOther}
use Rattle.plans_naming.specs.Create.{CanCreate, CanCreateGrown}
use Rattle.plans_naming.specs.Link.{CanLink, CanLinkGrown}
use Rattle.plans_naming.specs.Make.{CanMakeIn, CanMakeGrown}
use Rattle.plans_naming.specs.Move.{CanMove, CanMoveGrown, HasGrounds}
use Rattle.plans_naming.specs.Rename.{CanRename}
use Rattle.plans_naming.specs.Unlink.{CanUnlink}
use Rattle.plans_naming.specs.RemoveDirectory.{CanRemove}
use Rattle.plans_naming.proofs.AcceptedPlaces.{content_claim, empty_at, good_at, file_mode, takes, enters_grown, across_none}

module _ (geo : Geometry) (old : State) (b : Balance geo old) (ok : IsGeometry geo) where
  abbrev v : View
  v = old.view

  whole : IsWhole geo v
  whole = record { geometry = ok; pointers = λ n number. b.records n; blocks = b.whole }

  pub accepted_create : (p words : List ℕ) → Accepts geo old (Create p words) → (n s : ℕ) (entry : List ℕ) (after : List Cell) → IsFreeNumber geo v n → slot geo v (holder geo v p) s ≡ Empty → IsEntryFor n (name_in p) entry
      → Contains after (Record n) → HasOtherBlocks geo v (holder geo v p) (block_of geo v (holder geo v p) (s / 16)) after
      → CanCreate geo v n (holder geo v p) s (block_of geo v (holder geo v p) (s / 16)) (name_in p) entry after
  unfolding causes
  accepted_create p words accepts n s entry after free empty says first others =
      let q = quiet (causes geo old (Create p words)) accepts.0 in
      let at = new_place geo v p q.0 q.1.1.0 q.1.1.1.0 in
      record { number = free.number; unmarked = free.unmarked; place = empty_at geo v whole.blocks b.rules (holder geo v p) s at.reachable empty; takes = takes geo v p at; says = says; record_first = first; others_first = others }

  pub accepted_create_grown : (p words : List ℕ) → Accepts geo old (Create p words) → (n c : ℕ) (kept : Holder) (s : ℕ) (entry : List ℕ) (after : List Cell) → IsFreeNumber geo v n → IsFalse (has_room geo v (holder geo v p))
      → IsFreeBlock geo v c → IsKeptIn geo v (holder geo v p) (blocks_of (v.inode (holder geo v p)).size) c kept → AreApart (c ∷ new_blocks kept) → s / 16 ≡ blocks_of (v.inode (holder geo v p)).size → IsEntryFor n (name_in p) entry
      → Contains after (Record n) → HasBlocks geo v (holder geo v p) after → CanCreateGrown geo v n (holder geo v p) c kept s (name_in p) entry after
  unfolding causes
  accepted_create_grown p words accepts n c kept s entry after free no_room block keeps news stands says first blocks =
      let q = quiet (causes geo old (Create p words)) accepts.0 in
      let at = new_place geo v p q.0 q.1.1.0 q.1.1.1.0 in
      record { number = free.number; unmarked = free.unmarked; enter = enters_grown geo v p c kept s after at q.1.1.1.1.1.0 whole no_room block keeps news stands blocks; says = says; record_first = first }

  pub accepted_make : (p words : List ℕ) → Accepts geo old (Mkdir p words) → (i a : ℕ) (dots : List ℕ) (s : ℕ) (entry : List ℕ) (after : List Cell) → IsFreeNumber geo v i → IsFreeBlock geo v a → AreDots i (holder geo v p) dots
      → slot geo v (holder geo v p) s ≡ Empty → IsEntryFor i (name_in p) entry → Contains after (Record i) → HasOtherBlocks geo v (holder geo v p) (block_of geo v (holder geo v p) (s / 16)) after
      → CanMakeIn geo v i a dots (holder geo v p) s (block_of geo v (holder geo v p) (s / 16)) (name_in p) entry after
  unfolding causes
  accepted_make p words accepts i a dots s entry after free block are empty says first others =
      let q = quiet (causes geo old (Mkdir p words)) accepts.0 in
      let at = new_place geo v p q.0 q.1.1.0 q.1.1.1.0 in
      record {
        make = record { number = free.number; unmarked = free.unmarked; address = block.address; block_unmarked = block.unmarked; are_dots = are };
        place = empty_at geo v whole.blocks b.rules (holder geo v p) s at.reachable empty;
        takes = takes geo v p at;
        says = says;
        record_first = first;
        others_first = others;
      }

  pub accepted_make_grown : (p words : List ℕ) → Accepts geo old (Mkdir p words) → (i a : ℕ) (dots : List ℕ) (c : ℕ) (kept : Holder) (s : ℕ) (entry : List ℕ) (after : List Cell) → IsFreeNumber geo v i → IsFreeBlock geo v a → AreDots i (holder geo v p) dots
      → IsFalse (has_room geo v (holder geo v p)) → IsFreeBlock geo v c → AreOther a c kept → IsKeptIn geo v (holder geo v p) (blocks_of (v.inode (holder geo v p)).size) c kept → AreApart (c ∷ new_blocks kept) → s / 16 ≡ blocks_of (v.inode (holder geo v p)).size
      → IsEntryFor i (name_in p) entry → Contains after (Record i) → HasBlocks geo v (holder geo v p) after → CanMakeGrown geo v i a dots (holder geo v p) c kept s (name_in p) entry after
  unfolding causes
  accepted_make_grown p words accepts i a dots c kept s entry after free block are no_room other_block other keeps news stands says first blocks =
      let q = quiet (causes geo old (Mkdir p words)) accepts.0 in
      let at = new_place geo v p q.0 q.1.1.0 q.1.1.1.0 in
      record {
        make = record { number = free.number; unmarked = free.unmarked; address = block.address; block_unmarked = block.unmarked; are_dots = are };
        enter = enters_grown geo v p c kept s after at q.1.1.1.1.1.1.0 whole no_room other_block keeps news stands blocks;
        other = other;
        says = says;
        record_first = first;
      }

  -- what a path leads to, where it leads to a file
  pub file_there : (p : List ℕ) → IsTrue (list_all is_part (parts p)) → target geo v (parts p) ≡ Ok (number_at geo v p) → IsFalse (is_directory_at geo v (number_at geo v p))
      → IsReachable geo v (number_at geo v p) × ((v.inode (number_at geo v p)).mode ≡ 1)
  file_there p good leads file = let r = target_reachable geo v b.rules (parts p) (number_at geo v p) good leads in (r, file_mode geo v (number_at geo v p) r file)

  pub accepted_link : (p q : List ℕ) → Accepts geo old (Link p q) → (s : ℕ) (entry : List ℕ) (after : List Cell) → slot geo v (holder geo v q) s ≡ Empty → IsEntryFor (number_at geo v p) (name_in q) entry
      → Contains after (Record (number_at geo v p)) → HasOtherBlocks geo v (holder geo v q) (block_of geo v (holder geo v q) (s / 16)) after
      → CanLink geo v (number_at geo v p) (holder geo v q) s (block_of geo v (holder geo v q) (s / 16)) (name_in q) entry after
  unfolding causes
  accepted_link p q accepts s entry after empty says first others =
      let k = quiet (causes geo old (Link p q)) accepts.0 in
      let at = new_place geo v q k.1.0 k.1.1.1.1.1.0 k.1.1.1.1.1.1.0 in
      let it = file_there p (good_parts p k.0) (no_error (target geo v (parts p)) 0 k.1.1.1.0) (when_none (is_directory_at geo v (number_at geo v p)) IsDirectory k.1.1.1.1.0) in
      record { reachable = it.0; file = it.1; place = empty_at geo v whole.blocks b.rules (holder geo v q) s at.reachable empty; takes = takes geo v q at; says = says; record_first = first; others_first = others }

  pub accepted_link_grown : (p q : List ℕ) → Accepts geo old (Link p q) → (c : ℕ) (kept : Holder) (s : ℕ) (entry : List ℕ) (after : List Cell) → IsFalse (has_room geo v (holder geo v q)) → IsFreeBlock geo v c
      → IsKeptIn geo v (holder geo v q) (blocks_of (v.inode (holder geo v q)).size) c kept → AreApart (c ∷ new_blocks kept) → s / 16 ≡ blocks_of (v.inode (holder geo v q)).size → IsEntryFor (number_at geo v p) (name_in q) entry
      → Contains after (Record (number_at geo v p)) → HasBlocks geo v (holder geo v q) after → CanLinkGrown geo v (number_at geo v p) (holder geo v q) c kept s (name_in q) entry after
  unfolding causes
  accepted_link_grown p q accepts c kept s entry after no_room block keeps news stands says first blocks =
      let k = quiet (causes geo old (Link p q)) accepts.0 in
      let at = new_place geo v q k.1.0 k.1.1.1.1.1.0 k.1.1.1.1.1.1.0 in
      let it = file_there p (good_parts p k.0) (no_error (target geo v (parts p)) 0 k.1.1.1.0) (when_none (is_directory_at geo v (number_at geo v p)) IsDirectory k.1.1.1.1.0) in
      record { reachable = it.0; file = it.1; enter = enters_grown geo v q c kept s after at k.1.1.1.1.1.1.1.1.0 whole no_room block keeps news stands blocks; says = says; record_first = first }

  pub accepted_unlink : (p : List ℕ) → Accepts geo old (Unlink p) → CanUnlink geo v (number_at geo v p) (holder geo v p) (slot_at geo v p) (block_of geo v (holder geo v p) (slot_at geo v p / 16)) (name_in p)
  unfolding causes
  accepted_unlink p accepts =
      let q = quiet (causes geo old (Unlink p)) accepts.0 in
      let at = place_at geo v p q.0 q.1.0 q.1.1.0 in
      let it = file_there p (good_parts p q.0) (no_error (target geo v (parts p)) 0 q.1.1.0) (when_none (is_directory_at geo v (number_at geo v p)) IsDirectory q.1.1.1.0) in
      record { place = good_at geo v whole.blocks p at; file = it.1 }

  pub accepted_remove : (p : List ℕ) → Accepts geo old (Rmdir p) → (after : List Cell) → HasBlocks geo v (number_at geo v p) after
      → CanRemove geo v (number_at geo v p) (block_of geo v (number_at geo v p) 0) (holder geo v p) (slot_at geo v p) (block_of geo v (holder geo v p) (slot_at geo v p / 16)) (name_in p) after
  unfolding causes
  accepted_remove p accepts after own =
      let q = quiet (causes geo old (Rmdir p)) accepts.0 in
      let at = place_at geo v p q.0 q.1.0 q.1.1.0 in
      let i = number_at geo v p in
      let dir : IsTrue (is_directory_at geo v i) = is_true (is_directory_at geo v i) (when_none (not (is_directory_at geo v i)) NotDirectory q.1.1.1.0) in
      let reached = directory_reached geo v i (target_reachable geo v b.rules (parts p) i (good_parts p q.0) (no_error (target geo v (parts p)) 0 q.1.1.0)) dir in
      let dot = slot_content geo v i 0 (Good i ((b.rules).rule5 i reached).0.0) (λ e. cc) ((b.rules).rule5 i reached).0.1 in
      record {
        place = good_at geo v whole.blocks p at;
        directory = dir;
        empty = λ t j low n. no_names i (when_none (has_names geo v i) NotEmpty q.1.1.1.1.0) t j low n;
        first = content_claim geo v i 0 (Good i ((b.rules).rule5 i reached).0.0) dot;
        own_first = own;
      }
    where
      is_true : (t : Bool) → not t ≡ false → IsTrue t
      is_true true e = refl
      is_true false e = absurd (both_ways true e refl)

      no_names : (i : ℕ) → has_names geo v i ≡ false → (t j : ℕ) → 2 ≤ t → Names geo v i t j → ⊥
      no_names i f t j low n =
          let at = names_stands geo v i t j n in
          both_ways (has_names geo v i) f (any_here (slot_count geo) (λ s. leb 2 s && not (eqb (number_in (slot geo v i s)) 0)) t at.place.below
          (and_from (leb 2 t) (not (eqb (number_in (slot geo v i t)) 0)) (le-leb 2 t low)
          (ap not (ne_eqb (number_in (slot geo v i t)) 0 (λ z. let two = number_low geo j at.number in omega (arith, z, two, number_from_names geo v i t j n))))))

  pub accepted_rename : (p q : List ℕ) → Accepts geo old (Rename p q) → holder geo v p ≡ holder geo v q → (entry : List ℕ) (after : List Cell) → IsEntryFor (number_at geo v p) (name_in q) entry
      → HasOtherBlocks geo v (holder geo v p) (block_of geo v (holder geo v p) (slot_at geo v p / 16)) after
      → CanRename geo v (number_at geo v p) (holder geo v p) (slot_at geo v p) (block_of geo v (holder geo v p) (slot_at geo v p / 16)) (name_in p) (name_in q) entry after
  unfolding causes
  accepted_rename p q accepts same entry after says others =
      let c = quiet (causes geo old (Rename p q)) accepts.0 in
      let at = place_at geo v p c.0 c.1.1.0 c.1.1.1.1.0 in
      let to = new_place geo v q c.1.0 c.1.1.1.1.1.0 c.1.1.1.1.1.1.1.0 in
      record { place = good_at geo v whole.blocks p at; takes = subst (λ d. TakesName geo v d (name_in q)) (sym same) (takes geo v q to); says = says; others_first = others }

  -- a name that goes to another directory is a file's
  file_across : (p q : List ℕ) → Quiet (causes geo old (Rename p q)) → (holder geo v p ≡ holder geo v q → ⊥) → IsReachable geo v (number_at geo v p) × ((v.inode (number_at geo v p)).mode ≡ 1)
  unfolding causes
  file_across p q c apart =
      file_there p (good_parts p c.0) (no_error (target geo v (parts p)) 0 c.1.1.1.1.0)
      (when_none (is_directory_at geo v (number_at geo v p)) IsDirectory (across_none (holder geo v p) (holder geo v q) (not_file geo v (number_at geo v p)) apart c.1.1.1.1.1.1.0))

  pub accepted_move : (p q : List ℕ) → Accepts geo old (Rename p q) → (holder geo v p ≡ holder geo v q → ⊥) → (s : ℕ) (entry : List ℕ) (after' after : List Cell) → slot geo v (holder geo v q) s ≡ Empty
      → IsEntryFor (number_at geo v p) (name_in q) entry → Contains after' (Record (number_at geo v p)) → HasOtherBlocks geo v (holder geo v q) (block_of geo v (holder geo v q) (s / 16)) after'
      → Contains after (Block (block_of geo v (holder geo v q) (s / 16))) → HasGrounds geo v (holder geo v q) (block_of geo v (holder geo v p) (slot_at geo v p / 16)) after
      → CanMove geo v (number_at geo v p) (holder geo v q) s (block_of geo v (holder geo v q) (s / 16)) (name_in q) entry after'
      (holder geo v p) (slot_at geo v p) (block_of geo v (holder geo v p) (slot_at geo v p / 16)) (name_in p) after
  unfolding causes
  accepted_move p q accepts apart s entry after' after empty says first others entry_first grounds =
      let c = quiet (causes geo old (Rename p q)) accepts.0 in
      let at = place_at geo v p c.0 c.1.1.0 c.1.1.1.1.0 in
      let to = new_place geo v q c.1.0 c.1.1.1.1.1.0 c.1.1.1.1.1.1.1.0 in
      let it = file_across p q c apart in
      record {
        to = record { reachable = it.0; file = it.1; place = empty_at geo v whole.blocks b.rules (holder geo v q) s to.reachable empty; takes = takes geo v q to; says = says; record_first = first; others_first = others };
        from = good_at geo v whole.blocks p at;
        apart = apart;
        entry_first = entry_first;
        grounds = grounds;
      }

  pub accepted_move_grown : (p q : List ℕ) → Accepts geo old (Rename p q) → (holder geo v p ≡ holder geo v q → ⊥) → (e : ℕ) (kept : Holder) (s : ℕ) (entry : List ℕ) (after' after : List Cell) → IsFalse (has_room geo v (holder geo v q))
      → IsFreeBlock geo v e → IsKeptIn geo v (holder geo v q) (blocks_of (v.inode (holder geo v q)).size) e kept → AreApart (e ∷ new_blocks kept) → s / 16 ≡ blocks_of (v.inode (holder geo v q)).size → IsEntryFor (number_at geo v p) (name_in q) entry
      → Contains after' (Record (number_at geo v p)) → HasBlocks geo v (holder geo v q) after'
      → Contains after (Block e) → HasGrounds geo v (holder geo v q) (block_of geo v (holder geo v p) (slot_at geo v p / 16)) after
      → ((x : ℕ) → Contains (blocks_on_way kept) x → IsKnown after (block_of geo v (holder geo v p) (slot_at geo v p / 16)) (Block x))
      → CanMoveGrown geo v (number_at geo v p) (holder geo v q) e kept s (name_in q) entry after'
      (holder geo v p) (slot_at geo v p) (block_of geo v (holder geo v p) (slot_at geo v p / 16)) (name_in p) after
  unfolding causes
  accepted_move_grown p q accepts apart e kept s entry after' after no_room block keeps news stands says first blocks entry_first grounds table =
      let c = quiet (causes geo old (Rename p q)) accepts.0 in
      let at = place_at geo v p c.0 c.1.1.0 c.1.1.1.1.0 in
      let to = new_place geo v q c.1.0 c.1.1.1.1.1.0 c.1.1.1.1.1.1.1.0 in
      let it = file_across p q c apart in
      record {
        to = record {
          reachable = it.0;
          file = it.1;
          enter = enters_grown geo v q e kept s after' to (across_none (holder geo v p) (holder geo v q) (full geo v (holder geo v q)) apart c.1.1.1.1.1.1.1.1.1.0) whole no_room block keeps news stands blocks;
          says = says;
          record_first = first;
        };
        from = good_at geo v whole.blocks p at;
        apart = apart;
        entry_first = entry_first;
        grounds = grounds;
        tables_first = table;
      }
