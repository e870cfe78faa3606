-- A directory that is full gets room for an entry.
use Rattle.std.proofs.Common.{◌≡◌, ◌<◌, ◌+◌, ◌/◌, ℕ, true, List, [], ◌∷◌, map, length, unwrap_or, option_and_then, Contains, Some, ◌⊎◌, inl, inr, refl, sym, ap, ◌∙◌, subst, arith, IsTrue, IsFalse}
use Rattle.std.specs.Bool.{then_some}
use Rattle.std.proofs.lemmas.Bool.{and_from}
use Rattle.model.specs.Layout.{Geometry, is_number, is_data_address}
use Rattle.model.specs.View.{View, Inode}
use Rattle.model.specs.Cells.{SetInode, SetBlock, SetBytes, updated}
use Rattle.model.specs.Shape.{direct_positions, most_blocks, place_in_table, above, is_table, reaches}
use Rattle.model.specs.Uses.{blocks_of, use_at, claim_at, record_use, IsClaim, is_directory_at, is_sound}
use Rattle.model.specs.Slots.{Empty, Good, slot, Names}
use Rattle.model.specs.Reach.{IsReachableDirectory, slot_count}
use Rattle.model.specs.Rules.{ObeysRules}
use Rattle.model.proofs.Uses.{number_use, record_uses_agree, use_number}
use Rattle.model.proofs.SlotLemmas.{directory_sound, directory_number, reachable_directory}
use Rattle.model.proofs.Places.{put_here, put_there}
use Rattle.model.proofs.SameTree.{SameTree}
use Rattle.ordering.specs.Cuts.{Cell, Record, BlockBit, Block, Pending, users_view, EachCut, IsAfter}
use Rattle.ordering.proofs.CutLemmas.{after_kept}
use Rattle.ordering.specs.Ghosts.{Ghost}
use Rattle.ordering.specs.Agrees.{AllAgree}
use Rattle.ordering.specs.OneSlot.{ChangesSlot}
use Rattle.ordering.proofs.Bits.{users_obey}
use Rattle.ordering.proofs.Data.{directory_mode}
use Rattle.machine.specs.Cells.{block_of, with_slot, with_pointer, IsEntryFor, Enters, Places}
use Rattle.machine.specs.Room.{is_empty}
use Rattle.machine.specs.Whole.{HasWholeBlocks}
use Rattle.machine.proofs.Decisions.{any_same}
use Rattle.plans_data.specs.Issues.{Issues}
use Rattle.plans_data.specs.Append.{Holder, KeptInRecord, KeptInTable, KeptInNew, IsSpare, IsNoneOf, IsKeptIn, new_blocks, MayAppend, OfDirectory, pointed, sized, filled, linked, known, pointer_after}
use Rattle.plans_data.proofs.Holders as holders
use Rattle.plans_data.proofs.Holders.{first_of, later_of}
use Rattle.plans_data.proofs.Append.{append_issues, append_places, append_credit}
use Rattle.plans_naming.specs.Entries.{slot_written, StandsAt, TakesName, HasBlocks, HasOtherBlocks}
use Rattle.plans_naming.specs.Grow.{CanGrow, AreOther, grown, empty_block}
use Rattle.plans_naming.proofs.Folders.{SameFolder}
use Rattle.plans_naming.proofs.Puts.{enters_slot}
use Rattle.plans_naming.proofs.EntryEffects.{written_slot}
use Rattle.plans_naming.proofs.Grown as after
use Rattle.plans_naming.proofs.GrowthFacts.{some_block, linked_view}
use Rattle.plans_naming.proofs.Growths as growths

pub may_append : (geo : Geometry) (v : View) (ghost : Ghost) (d b : ℕ) (holder : Holder) → CanGrow geo v d b holder → IsTrue (is_directory_at geo v d) → IsSpare v ghost
    → MayAppend geo v ghost d (blocks_of (v.inode d).size) b empty_block ((v.inode d).size + 1024) holder
may_append geo v ghost d b holder can dir spare =
    let x = v.inode d in
    let two = directory_mode geo v d dir in
    let whole = (some_block geo x (directory_sound geo v d dir) two).1 in
    record {
      whole = can.whole;
      spare = spare;
      sound = and_from (is_number geo d) (is_sound geo x) (directory_number geo v d dir) (directory_sound geo v d dir);
      next = refl;
      room = can.room;
      blocks = omega arith;
      free = can.free;
      kept = can.kept;
      apart = can.apart;
      content = OfDirectory two refl (omega (arith, whole));
    }

-- what is kept somewhere is still kept there once other cells changed
kept_there : (geo : Geometry) (v w : View) (d : ℕ) → blocks_of (w.inode d).size ≡ blocks_of (v.inode d).size → ((k : ℕ) → use_at geo v d k ≡ use_at geo w d k) → ((m x : ℕ) → IsClaim geo v d m x → v.bytes x ≡ w.bytes x)
    → (k b : ℕ) (h : Holder) → ((x : ℕ) → Contains (new_blocks h) x → IsFalse (v.block_marked x) → IsFalse (w.block_marked x)) → IsKeptIn geo v d k b h → IsKeptIn geo w d k b h
unfolding claim_at
kept_there geo v w d size uses bytes k b KeptInRecord free kept = kept
kept_there geo v w d size uses bytes k b (KeptInTable m x table over) free kept = (
  kept.0,
  (sym (uses m) ∙ (kept.1).0, (kept.1).1),
  kept.2 ∙ bytes m x kept.1,
  kept.3 ∙ same_blocks (above geo m),
)
  where
    same_blocks : (js : List ℕ) → map (block_of geo v d) js ≡ map (block_of geo w d) js
    same_blocks [] = refl
    same_blocks (j ∷ js) =
        let one : block_of geo v d j ≡ block_of geo w d j = ap (λ u. unwrap_or (option_and_then (λ a. then_some (is_data_address geo a) a) u) 0) (uses j) in
        ap (λ y. y ∷ map (block_of geo v d) js) one ∙ ap (λ ys. block_of geo w d j ∷ ys) (same_blocks js)
kept_there geo v w d size uses bytes k b (KeptInNew m x table up) free kept = (
  kept.0,
  ap (λ n. reaches geo n m) size ∙ kept.1,
  record { free = record { address = ((kept.2).free).address; unmarked = free x (first_of x (new_blocks up)) ((kept.2).free).unmarked }; other = (kept.2).other; whole = (kept.2).whole; first = (kept.2).first },
  kept_there geo v w d size uses bytes m x up (λ y c. free y (later_of x (new_blocks up) y c)) kept.3,
)

-- what may grow may still grow once other cells changed
pub grow_there : (geo : Geometry) (v w : View) (d b : ℕ) (holder : Holder) → CanGrow geo v d b holder → ((n : ℕ) → IsTrue (is_number geo n) → length (w.inode n).direct ≡ direct_positions) → HasWholeBlocks geo w
    → (w.inode d).size ≡ (v.inode d).size → SameFolder geo v w d → IsFalse (w.block_marked b) → ((x : ℕ) → Contains (new_blocks holder) x → IsFalse (v.block_marked x) → IsFalse (w.block_marked x))
    → ((m x : ℕ) → IsClaim geo v d m x → v.bytes x ≡ w.bytes x) → CanGrow geo w d b holder
grow_there geo v w d b holder can pointers blocks size folder free free_new bytes = record {
  whole = record { geometry = can.whole.geometry; pointers = pointers; blocks = blocks };
  full = sym (any_same (slot_count geo) (λ t. is_empty (slot geo v d t)) (λ t. is_empty (slot geo w d t)) (λ t k. ap is_empty (folder.slots t))) ∙ can.full;
  room = subst (λ n. blocks_of n < most_blocks geo) (sym size) can.room;
  free = record { address = can.free.address; unmarked = free };
  kept = subst (λ n. IsKeptIn geo w d (blocks_of n) b holder) (sym size) (kept_there geo v w d (ap blocks_of size) folder.uses bytes (blocks_of (v.inode d).size) b holder free_new can.kept);
  apart = can.apart;
}

-- what a directory's new block leaves, and the slot that it brings
pub record NewRoom (geo : Geometry) (v w : View) (d b s : ℕ) : Type 0 where
  pub tree : SameTree geo v w
  pub folder : (e : ℕ) → (e ≡ d → ⊥) → SameFolder geo v w e
  pub place : StandsAt geo w d s b Empty
  pub takes : (name : List ℕ) → TakesName geo v d name → TakesName geo w d name
  pub others : (after : List Cell) → HasBlocks geo v d after → HasOtherBlocks geo w d b after
  pub zeroes : w.bytes b ≡ empty_block
  pub links : (w.inode d).links ≡ (v.inode d).links
  pub records : (n : ℕ) → (n ≡ d → ⊥) → w.inode n ≡ v.inode n
  pub names : (e t i : ℕ) → Names geo v e t i → Names geo w e t i
  pub claims : (e t i c : ℕ) → Names geo v e t i → IsClaim geo w e (t / 16) c → IsClaim geo v e (t / 16) c
  pub directories : (e : ℕ) → is_directory_at geo v e ≡ is_directory_at geo w e

module _ (geo : Geometry) (v : View) (rules : ObeysRules geo v) (ghost : Ghost) (d b : ℕ) (holder : Holder) (can : CanGrow geo v d b holder) (reached : IsReachableDirectory geo v d)
    (spare : IsSpare v ghost) where
  dir : IsTrue (is_directory_at geo v d)
  dir = reachable_directory geo v d reached

  abbrev k : ℕ
  k = blocks_of (v.inode d).size

  abbrev size : ℕ
  size = (v.inode d).size + 1024

  abbrev before : View
  before = linked_view geo v k b holder

  abbrev new : Inode
  new = sized (pointed geo (v.inode d) k b holder) size

  abbrev pub roomy : View
  roomy = updated before (SetInode d new)

  is : after.Grown geo v before d k b new
  is = growths.grown geo v rules ghost d k b size (directory_mode geo v d dir) holder (may_append geo v ghost d b holder can dir spare)

  pub came_tables : (m t : ℕ) → IsTrue (is_table geo m) → IsClaim geo roomy d m t → IsClaim geo v d m t ⊎ Contains (new_blocks holder) t
  came_tables m t one c =
      let u = use_number geo roomy d m t c.0 in
      let used : record_use geo before new m ≡ Some t = record_uses_agree geo before roomy new m (λ n y above f a. refl) ∙ ap (λ y. record_use geo roomy y m) (sym (put_here before.inode d new)) ∙ u.1 in
      elim (growths.came_tables geo v rules ghost d k b size (directory_mode geo v d dir) holder (may_append geo v ghost d b holder can dir spare) m t one used) [
        | inl was ↦ inl (number_use geo v d m t u.0 was, c.1)
        | inr new_one ↦ inr new_one
      ]

  pub new_room : (s : ℕ) → s / 16 ≡ k → NewRoom geo v roomy d b s
  new_room s at = record {
    tree = after.grown_tree geo v before d k b new is;
    folder = after.grown_folder geo v before d k b new is;
    place = after.new_place geo v before d k b new is reached s at;
    takes = λ name h. after.grown_takes geo v before d k b new is name reached h;
    others = after.grown_others geo v before d k b new is;
    zeroes = is.zeroes;
    links = ap (λ (y : Inode). y.links) (after.grown_record geo v before d k b new is) ∙ is.links;
    records = λ n other. put_there before.inode d n new other ∙ is.inodes n;
    names = after.grown_names geo v before d k b new is;
    claims = after.grown_claims geo v before d k b new is;
    directories = after.grown_directories geo v before d k b new is;
  }

-- the view after the updates
pub grown_view : (geo : Geometry) (disk : View) (p : List Pending) (d : ℕ) (x : Inode) (b : ℕ) (holder : Holder)
    → users_view disk (grown geo d x b holder p) ≡ updated (linked_view geo (users_view disk p) (blocks_of x.size) b holder) (SetInode d (sized (pointed geo x (blocks_of x.size) b holder) (x.size + 1024)))
grown_view geo disk p d x b holder =
    ap (λ v. updated v (SetInode d (sized (pointed geo x (blocks_of x.size) b holder) (x.size + 1024)))) (holders.linked_view geo disk d (blocks_of x.size) b holder (filled b empty_block p))

-- the table that gets the pointer is not this block
abbrev pub IsOtherTable : ℕ → Holder → Type 0
IsOtherTable a KeptInRecord = Unit {0}
IsOtherTable a (KeptInTable m x table over) = x ≡ a → ⊥
IsOtherTable a (KeptInNew m x table up) = IsOtherTable a up

-- ---- the updates in their order

pub record Grows (geo : Geometry) (disk : View) (p : List Pending) (ghost : Ghost) (d : ℕ) (x : Inode) (b : ℕ) (holder : Holder) (s : ℕ) : Type 0 where
  pub issues : Issues geo disk p ghost (grown geo d x b holder p) ghost
  pub room : NewRoom geo (users_view disk p) (users_view disk (grown geo d x b holder p)) d b s
  -- the tables of the directory were there, or are new
  pub tables : (m t : ℕ) → IsTrue (is_table geo m) → IsClaim geo (users_view disk (grown geo d x b holder p)) d m t → IsClaim geo (users_view disk p) d m t ⊎ Contains (new_blocks holder) t
  pub credit : EachCut disk (grown geo d x b holder p) (λ set view. IsTrue (set (Block b)) → (m j : ℕ) → IsClaim geo view m j b → IsTrue (set (Record d)))

pub grow_issues : (geo : Geometry) (disk : View) (p : List Pending) (ghost : Ghost) (d : ℕ) (x : Inode) (b : ℕ) (holder : Holder) (s : ℕ) → (users_view disk p).inode d ≡ x → CanGrow geo (users_view disk p) d b holder
    → IsReachableDirectory geo (users_view disk p) d → IsSpare (users_view disk p) ghost → s / 16 ≡ blocks_of x.size → AllAgree geo disk p ghost → Grows geo disk p ghost d x b holder s
grow_issues geo disk p ghost d x b holder s here can reached spare at all =
    subst (λ y. Grows geo disk p ghost d y b holder s) here (record {
      issues = append_issues geo disk p ghost d (blocks_of (v.inode d).size) b empty_block ((v.inode d).size + 1024) holder (may_append geo v ghost d b holder can (reachable_directory geo v d reached) spare) all;
      credit = append_credit geo disk p ghost d (blocks_of (v.inode d).size) b empty_block ((v.inode d).size + 1024) holder (may_append geo v ghost d b holder can (reachable_directory geo v d reached) spare) all;
      tables = λ m t one c. came_tables geo v (users_obey geo disk p ghost all) ghost d b holder can reached spare m t one (subst (λ w. IsClaim geo w d m t) (grown_view geo disk p d (v.inode d) b holder) c);
      room = subst (λ w. NewRoom geo v w d b s) (sym (grown_view geo disk p d (v.inode d) b holder)) (new_room geo v (users_obey geo disk p ghost all) ghost d b holder can reached spare s (at ∙ ap (λ (y : Inode). blocks_of y.size) (sym here)));
    })
  where
    v : View
    v = users_view disk p

abbrev new_record : Geometry → Inode → ℕ → Holder → Inode
new_record geo x b holder = sized (pointed geo x (blocks_of x.size) b holder) (x.size + 1024)

-- what came after a block that is none of these still does
abbrev bit_set : ℕ → List Pending → List Pending
bit_set b p = record { change = SetBlock b true; after = [] } ∷ p

bit_after : (disk : View) (p : List Pending) (b : ℕ) (c : Cell) (a : ℕ) → IsAfter disk p c (Block a) → IsAfter disk (bit_set b p) c (Block a)
bit_after disk p b c a = after_kept disk p (record { change = SetBlock b true; after = [] }) c (Block a) (λ e. cc)

bytes_after : (disk : View) (p : List Pending) (b : ℕ) (bytes : List ℕ) (cells : List Cell) (c : Cell) (a : ℕ) → (b ≡ a → ⊥) → IsAfter disk p c (Block a)
    → IsAfter disk (record { change = SetBytes b bytes; after = cells } ∷ p) c (Block a)
bytes_after disk p b bytes cells c a other = after_kept disk p (record { change = SetBytes b bytes; after = cells }) c (Block a) (λ e. other (let same : b ≡ a = cc in same))

record_after : (disk : View) (p : List Pending) (d : ℕ) (y : Inode) (cells : List Cell) (c : Cell) (a : ℕ) → IsAfter disk p c (Block a) → IsAfter disk (record { change = SetInode d y; after = cells } ∷ p) c (Block a)
record_after disk p d y cells c a = after_kept disk p (record { change = SetInode d y; after = cells }) c (Block a) (λ e. cc)

after_linked : (geo : Geometry) (disk : View) (n k b : ℕ) (h : Holder) (p : List Pending) (c : Cell) (a : ℕ) → IsNoneOf a (new_blocks h) → IsOtherTable a h → IsAfter disk p c (Block a)
    → IsAfter disk (linked geo n k b h p) c (Block a)
after_linked geo disk n k b KeptInRecord p c a none other h = h
after_linked geo disk n k b (KeptInTable m x table over) p c a none other h = bytes_after disk p x (with_pointer table (place_in_table geo k) b) (pointer_after n (place_in_table geo k) b table over) c a other h
after_linked geo disk n k b (KeptInNew m x table up) p c a none other h =
    after_linked geo disk n m x up (record { change = SetBytes x table; after = BlockBit x ∷ Block b ∷ [] } ∷ bit_set x p) c a none.1 other
    (bytes_after disk (bit_set x p) x table (BlockBit x ∷ Block b ∷ []) c a none.0 (bit_after disk p x c a h))

pub after_grown : (geo : Geometry) (disk : View) (p : List Pending) (d : ℕ) (x : Inode) (b : ℕ) (holder : Holder) (c : Cell) (a : ℕ) → AreOther a b holder → IsOtherTable a holder → IsAfter disk p c (Block a)
    → IsAfter disk (grown geo d x b holder p) c (Block a)
after_grown geo disk p d x b holder c a other table h =
    record_after disk (linked geo d (blocks_of x.size) b holder (filled b empty_block p)) d (new_record geo x b holder) (known b holder) c a
    (after_linked geo disk d (blocks_of x.size) b holder (filled b empty_block p) c a other.1 table (bytes_after disk (bit_set b p) b empty_block (BlockBit b ∷ []) c a other.0 (bit_after disk p b c a h)))

-- the new slot gets its entry
pub fills_slot : (geo : Geometry) (v w : View) (d b s i : ℕ) (name entry : List ℕ) → NewRoom geo v w d b s → TakesName geo v d name → IsTrue (is_number geo i) → IsEntryFor i name entry
    → ChangesSlot geo w b (with_slot empty_block s entry) d s Empty (Good i name)
fills_slot geo v w d b s i name entry r takes number says =
    subst (λ c. ChangesSlot geo w b (with_slot c s entry) d s Empty (Good i name)) r.zeroes (enters_slot geo w d s b i Empty name entry r.place (r.takes name takes) number says)

-- ---- what users see

pub enters_in_block : (geo : Geometry) (disk : View) (p : List Pending) (ghost : Ghost) (d : ℕ) (x : Inode) (b : ℕ) (holder : Holder) (s : ℕ) → (users_view disk p).inode d ≡ x → CanGrow geo (users_view disk p) d b holder
    → IsReachableDirectory geo (users_view disk p) d → IsSpare (users_view disk p) ghost → s / 16 ≡ blocks_of x.size → AllAgree geo disk p ghost
    → (i : ℕ) (name entry : List ℕ) (after : List Cell) → IsEntryFor i name entry → Enters geo (users_view disk p) d name i (users_view disk (slot_written b empty_block s entry after ∷ grown geo d x b holder p))
enters_in_block geo disk p ghost d x b holder s here can reached spare at all i name entry after says = record {
  roomy = w;
  room = inr (
    can.full,
    subst (λ y. Places geo v d (blocks_of (v.inode d).size) empty_block ((v.inode d).size + 1024) (users_view disk (grown geo d y b holder p))) here
        (append_places geo disk p ghost d (blocks_of (v.inode d).size) b empty_block ((v.inode d).size + 1024) holder (may_append geo v ghost d b holder can (reachable_directory geo v d reached) spare)),
  );
  place = s;
  empty = room.place.holds;
  entry = entry;
  says = says;
  whole = ap (λ c. updated w (SetBytes b (with_slot c s entry))) (sym room.zeroes) ∙ sym (written_slot geo w d s b Empty entry room.place);
}
  where
    v : View
    v = users_view disk p

    w : View
    w = users_view disk (grown geo d x b holder p)

    room : NewRoom geo v w d b s
    room = (grow_issues geo disk p ghost d x b holder s here can reached spare at all).room
