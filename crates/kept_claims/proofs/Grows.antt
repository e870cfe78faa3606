-- A block is linked to an inode: what the inode claims then is what it claimed, the block, and its new tables.
use Rattle.std.proofs.Common.{◌≡◌, ◌<◌, ◌≤◌, ℕ, true, List, [], ◌∷◌, ◌⊎◌, inl, inr, refl, sym, ap, ◌∙◌, subst, IsTrue, IsFalse, Some, arith, Contains}
use Rattle.std.proofs.lemmas.Bool.{and_parts, both_ways, le-leb, leb-true}
use Rattle.model.specs.Layout.{Geometry, is_number, is_data_address}
use Rattle.model.specs.View.{View, Inode}
use Rattle.model.specs.Cells.{SetBlock, SetBytes, updated_all}
use Rattle.model.specs.Image.{IsBlock}
use Rattle.model.specs.Shape.{most_blocks, position_count, is_table, place_in_table, field_at, pointer_in, reaches}
use Rattle.model.specs.Uses.{blocks_of, is_sound, is_sound_at, is_directory, has_position, record_use, IsClaim}
use Rattle.model.specs.Rules.{ObeysRules}
use Rattle.model.proofs.Places.{put_there}
use Rattle.model.proofs.Shape.{table_is_table, table_inside, place_inside, reach_parts, more_reach, some_table}
use Rattle.model.proofs.Steps.{use_sound}
use Rattle.model.proofs.Uses.{number_use, others_by_place}
use Rattle.model.proofs.Fields.{as_before, fields_with}
use Rattle.ordering.specs.Cuts.{Record, BlockBit, Block, Pending, users_view}
use Rattle.machine.specs.Cells.{with_pointer}
use Rattle.machine.specs.Effects.{with_links}
use Rattle.machine.specs.Room.{IsFreeBlock}
use Rattle.machine.proofs.Pointing.{Before, Comes, came_use}
use Rattle.machine.proofs.PointerTables.{small_address, pointer_there}
use Rattle.plans_data.specs.Append.{Holder, KeptInRecord, KeptInTable, KeptInNew, IsWhole, IsKeptIn, IsNoneOf, AreApart, new_blocks, cells_of, filled, linked, pointed, pointer_after, sized, known, appended}
use Rattle.plans_data.proofs.Holders.{kept_points, linked_view, new_listed, nothing_in, one_of_both}
use Rattle.kept_claims.proofs.Views.{Kind, SamePointers, metadata_from}
use Rattle.kept_claims.proofs.Since.{Since, At, Is, Or, block_on, given_on, table_on, record_since, no_table, unmarked_no_table}

-- ---- the blocks that come

-- with the new tables of a holder
abbrev pub Tables : (ℕ → ℕ → Type 0) → Holder → ℕ → ℕ → Type 0
Tables new KeptInRecord = new
Tables new (KeptInTable m x table over) = new
Tables new (KeptInNew m x table up) = Tables (Or new (Is x)) up

-- and with the block itself, at position k
abbrev pub Grown : (ℕ → ℕ → Type 0) → ℕ → ℕ → Holder → ℕ → ℕ → Type 0
Grown new k b holder = Tables (Or new (At k b)) holder

tables_more : (new : ℕ → ℕ → Type 0) (holder : Holder) (q t : ℕ) → new q t → Tables new holder q t
tables_more new KeptInRecord q t n = n
tables_more new (KeptInTable m x table over) q t n = n
tables_more new (KeptInNew m x table up) q t n = tables_more (Or new (Is x)) up q t (inl n)

tables_listed : (new : ℕ → ℕ → Type 0) (holder : Holder) (q t : ℕ) → Contains (new_blocks holder) t → Tables new holder q t
tables_listed new KeptInRecord q t c = absurd (nothing_in t c)
tables_listed new (KeptInTable m x table over) q t c = absurd (nothing_in t c)
tables_listed new (KeptInNew m x table up) q t c = elim (one_of_both x (new_blocks up) t c) [
  | inl e ↦ tables_more (Or new (Is x)) up q t (inr (sym e))
  | inr d ↦ tables_listed (Or new (Is x)) up q t d
]

-- a block that is none of these tables, and was not new
pub not_grown : (new : ℕ → ℕ → Type 0) (holder : Holder) (c q : ℕ) → IsNoneOf c (new_blocks holder) → (new q c → ⊥) → Tables new holder q c → ⊥
not_grown new KeptInRecord c q apart other t = other t
not_grown new (KeptInTable m x table over) c q apart other t = other t
not_grown new (KeptInNew m x table up) c q apart other t = not_grown (Or new (Is x)) up c q apart.1 (λ n. elim n [ inl o ↦ other o | inr e ↦ apart.0 (sym e) ]) t

-- ---- the record with other links
-- it keeps its pointers where the record itself does
links_fields : (geo : Geometry) (x : Inode) (l k b : ℕ) (h : Holder) (q : ℕ) → field_at geo (pointed geo (with_links x l) k b h) q ≡ field_at geo (pointed geo x k b h) q
links_fields geo x l k b KeptInRecord q = fields_with geo (with_links x l) x k b refl refl refl q
links_fields geo x l k b (KeptInTable m y table over) q = refl
links_fields geo x l k b (KeptInNew m y table up) q = links_fields geo x l m y up q

links_mode : (geo : Geometry) (x : Inode) (l k b : ℕ) (h : Holder) → (pointed geo (with_links x l) k b h).mode ≡ x.mode
links_mode geo x l k b KeptInRecord = as_before geo (with_links x l) k b (λ y. y.mode) (λ d. refl) refl refl
links_mode geo x l k b (KeptInTable m y table over) = refl
links_mode geo x l k b (KeptInNew m y table up) = links_mode geo x l m y up

-- ---- the updates

-- Block b is kept at position k of inode n: the next one, or one in use.
pub record Gets (geo : Geometry) (v : View) (n k b size : ℕ) (holder : Holder) : Type 0 where
  pub whole : IsWhole geo v
  pub sound : IsTrue (is_sound_at geo v n)
  pub room : k < most_blocks geo
  pub free : IsFreeBlock geo v b
  pub kept : IsKeptIn geo v n k b holder
  pub apart : AreApart (b ∷ new_blocks holder)
  -- no pointer to metadata stood there
  pub untouched : IsTrue (has_position geo (v.inode n) k) → IsTrue (is_directory (v.inode n)) → ⊥
  pub more : blocks_of (v.inode n).size ≤ blocks_of size
  pub inside : k < blocks_of size
  pub few : blocks_of size ≤ most_blocks geo
  pub came : (j : ℕ) → j < blocks_of size → (j < blocks_of (v.inode n).size) ⊎ (j ≡ k)

module _ (geo : Geometry) (disk : View) (q : List Pending) (rules : ObeysRules geo (users_view disk q)) where
  abbrev start : View
  start = users_view disk q

  module _ (n : ℕ) (whole : IsWhole geo start) where
    -- the tables of inode n hold what they held
    abbrev Holding : View → Type 0
    Holding w = (m x : ℕ) → IsTrue (is_table geo m) → IsClaim geo start n m x → w.bytes x ≡ start.bytes x

    -- a block that is not marked is none of them
    apart_from : (c m x : ℕ) → IsFalse (start.block_marked c) → IsClaim geo start n m x → x ≡ c → ⊥
    apart_from c m x unmarked claim e = both_ways (start.block_marked c) unmarked (rules.rule3.marked n m c (subst (λ y. IsClaim geo start n m y) e claim))

    holding_more : (w : View) (c : ℕ) (bytes : List ℕ) → IsFalse (start.block_marked c) → Holding w → Holding (updated_all w (SetBytes c bytes ∷ []))
    holding_more w c bytes unmarked holds m x table claim = put_there w.bytes c x bytes (apart_from c m x unmarked claim) ∙ holds m x table claim

    -- the blocks that are new as tables were not marked, and are none of these
    abbrev Fresh : (ℕ → ℕ → Type 0) → List ℕ → Type 0
    Fresh new blocks = (l c : ℕ) → IsTrue (is_table geo l) → new l c → IsFalse (start.block_marked c) × IsNoneOf c blocks

    pub linked_on : (holder : Holder) (k b : ℕ) (p : List Pending) (new : ℕ → ℕ → Type 0) → Since geo disk q p new → Fresh new (new_blocks holder) → Holding (users_view disk p)
        → ((users_view disk p).inode n).size ≡ (start.inode n).size → is_directory ((users_view disk p).inode n) ≡ is_directory (start.inode n)
        → IsTrue (is_data_address geo b) → k < position_count geo → IsKeptIn geo start n k b holder → AreApart (new_blocks holder)
        → ((j : ℕ) → Kind geo (start.inode n) j → IsTrue (has_position geo (start.inode n) j) → j ≡ k → ⊥)
        → Since geo disk q (linked geo n k b holder p) (Tables new holder)
    linked_on KeptInRecord k b p new s fresh holds size mode address low kept apart untouched = s
    linked_on (KeptInTable m x table over) k b p new s fresh holds size mode address low kept apart untouched =
        table_on geo disk q p new s x (with_pointer table (place_in_table geo k) b) (pointer_after n (place_in_table geo k) b table over) same
      where
        v : View
        v = users_view disk p

        is : IsTrue (is_table geo m)
        is = le-leb (most_blocks geo) m (table_is_table geo k m kept.0)

        mine : (i l : ℕ) → IsTrue (is_table geo l) → IsClaim geo v i l x → (i ≡ n) × (l ≡ m)
        mine i l at c = elim (s.claims i l x (c, inl at)) [
          | inl old ↦ rules.rule3.once i l n m x old.0 kept.1
          | inr new ↦ absurd (apart_from x m x (fresh l x at new).0 kept.1 refl)
        ]

        bytes : (users_view disk p).bytes x ≡ table
        bytes = holds m x is kept.1 ∙ sym kept.2

        block : IsBlock table
        block = subst (λ (c : List ℕ). IsBlock c) (sym kept.2) (whole.blocks x kept.1.1)

        same : SamePointers geo (users_view disk p) x (with_pointer table (place_in_table geo k) b)
        same i j l kind h has claim =
            let of = mine i l (le-leb (most_blocks geo) l (table_is_table geo j l h)) claim in
            let had : IsTrue (has_position geo (start.inode n) j) = subst (λ s. IsTrue (reaches geo (blocks_of s) j)) (ap (λ i. (v.inode i).size) of.0 ∙ size) has in
            let here : Kind geo (start.inode n) j = elim kind [ inl t ↦ inl t | inr d ↦ inr (sym mode ∙ ap (λ i. is_directory (v.inode i)) (sym of.0) ∙ d) ] in
            others_by_place geo v x (with_pointer table (place_in_table geo k) b) k m kept.0
            (λ at inside differs. ap (λ (c : List ℕ). pointer_in c at) bytes
            ∙ sym (pointer_there table block (place_in_table geo k) b (place_inside geo k m low kept.0) (small_address geo whole.geometry b address) at differs))
            j (reach_parts geo (blocks_of (start.inode n).size) j had).0 (untouched j here had) (h ∙ ap Some of.1)
    linked_on (KeptInNew m x table up) k b p new s fresh holds size mode address low kept apart untouched =
        linked_on up m x p2 (Or new (Is x))
        (given_on geo disk q p1 new (block_on geo disk q p new s x true []) x table (BlockBit x ∷ Block b ∷ []) (Is x) (λ l a e. e)
        (no_table geo disk q p1 new (block_on geo disk q p new s x true []) x (unmarked_no_table geo start rules x kept.2.free.unmarked) (λ l at c. (fresh l x at c).1.0 refl)))
        (λ l c at n. elim n [
          | inl old ↦ ((fresh l c at old).0, (fresh l c at old).1.1)
          | inr is ↦ (subst (λ y. IsFalse (start.block_marked y)) (sym is) kept.2.free.unmarked, subst (λ y. IsNoneOf y (new_blocks up)) (sym is) apart.0)
        ])
        (holding_more (users_view disk p1) x table kept.2.free.unmarked holds) size mode kept.2.free.address (table_inside geo k m low kept.0) kept.3 apart.1
        (λ j kind had e. both_ways (has_position geo (start.inode n) m) kept.1 (subst (λ y. IsTrue (has_position geo (start.inode n) y)) e had))
      where
        p1 : List Pending
        p1 = record { change = SetBlock x true; after = [] } ∷ p

        p2 : List Pending
        p2 = record { change = SetBytes x table; after = BlockBit x ∷ Block b ∷ [] } ∷ p1

  -- the whole: the block is filled and linked, and the record follows
  module _ (p : List Pending) (new : ℕ → ℕ → Type 0) (s : Since geo disk q p new) (no_tables : (l c : ℕ) → IsTrue (is_table geo l) → new l c → ⊥)
      (n l k b size : ℕ) (bytes : List ℕ) (holder : Holder) (here : (users_view disk p).inode n ≡ with_links (start.inode n) l) (g : Gets geo start n k b size holder)
      (holds : (m x : ℕ) → IsTrue (is_table geo m) → IsClaim geo start n m x → (users_view disk p).bytes x ≡ start.bytes x) where
    abbrev p1 : List Pending
    p1 = filled b bytes p

    abbrev v1 : View
    v1 = users_view disk p1

    abbrev old : Inode
    old = start.inode n

    abbrev r : Inode
    r = sized (pointed geo (with_links old l) k b holder) size

    number : IsTrue (is_number geo n)
    number = (and_parts (is_number geo n) (is_sound geo old) g.sound).0

    high : (m : ℕ) → IsTrue (is_table geo m) → m ≡ k → ⊥
    high m table e = let low = g.room in let up = leb-true (most_blocks geo) m table in omega (arith, low, up, e)

    filled_on : Since geo disk q p1 (Or new (At k b))
    filled_on =
        let s0 = block_on geo disk q p new s b true [] in
        given_on geo disk q (record { change = SetBlock b true; after = [] } ∷ p) new s0 b bytes (BlockBit b ∷ []) (At k b) (λ j a at. at.1)
        (no_table geo disk q (record { change = SetBlock b true; after = [] } ∷ p) new s0 b (unmarked_no_table geo start rules b g.free.unmarked) (λ j table c. no_tables j b table c))

    fresh : Fresh n g.whole (Or new (At k b)) (new_blocks holder)
    fresh j c table (inl o) = absurd (no_tables j c table o)
    fresh j c table (inr at) = absurd (high j table at.0)

    untouched : (j : ℕ) → Kind geo old j → IsTrue (has_position geo old j) → j ≡ k → ⊥
    untouched j (inl table) has e = high j table e
    untouched j (inr d) has e = g.untouched (subst (λ y. IsTrue (has_position geo old y)) e has) d

    pub tables_on : Since geo disk q (linked geo n k b holder p1) (Grown new k b holder)
    tables_on =
        linked_on n g.whole holder k b p1 (Or new (At k b)) filled_on fresh (holding_more n g.whole (users_view disk p) b bytes g.free.unmarked holds)
        (ap (λ (y : Inode). y.size) here) (ap is_directory here) g.free.address (let low = g.room in omega (arith, low, some_table geo)) g.kept g.apart.1 untouched

    -- what the record uses then it used before, or it came
    before : IsTrue (is_sound geo r) → Before geo start old g.whole.geometry r
    before still = record {
      sound = λ j has. (and_parts (is_number geo n) (is_sound geo old) g.sound).1;
      still_sound = still;
      keeps = λ j has. more_reach geo (blocks_of old.size) (blocks_of size) j g.more has;
      once = λ i j t ti tj a b d. (rules.rule3.once n i n j t (number_use geo start n i t number a, d) (number_use geo start n j t number b, d)).1;
      unused = λ t free m table u.
          let c = number_use geo start n m t number u in both_ways (start.block_marked t) free.unmarked (rules.rule3.marked n m t (c, rules.rule3.claims n m t c));
      whole = λ m t table u d. g.whole.blocks t d;
      twelve = g.whole.pointers n number;
    }

    held : (m x : ℕ) → IsTrue (is_table geo m) → record_use geo start old m ≡ Some x → IsTrue (is_data_address geo x) → start.bytes x ≡ v1.bytes x
    held m x table u d = sym (holding_more n g.whole (users_view disk p) b bytes g.free.unmarked holds m x table (number_use geo start n m x number u, d))

    pub linked_once : Since geo disk q (appended geo n (with_links old l) k b bytes size holder p) (Grown new k b holder)
    linked_once =
        record_since geo disk q (linked geo n k b holder p1) (Grown new k b holder) tables_on n r (known b holder) (λ j a m.
        let after = updated_all v1 (cells_of geo k b holder) in
        let uses : record_use geo after r j ≡ Some a = subst (λ w. record_use geo w r j ≡ Some a) (linked_view geo disk n k b holder p1) m.uses in
        let comes : Comes geo start old g.whole.geometry r k b (kept_points geo start n k b holder g.kept) = record {
          before = before (use_sound geo after r j a uses);
          fields = λ i. links_fields geo old l k b holder i;
          address = g.free.address;
          inside = g.inside;
          few = g.few;
          came = g.came;
        } in
        elim (came_use geo start old g.whole.geometry r k b (kept_points geo start n k b holder g.kept) comes v1 held j a uses) [
          | inl was ↦ inl (metadata_from geo start n j a (record {
            number = number;
            uses = was.1;
            address = m.address;
            kind = elim m.kind [ inl t ↦ inl t | inr d ↦ inr (ap (λ y. is_directory (record old { mode = y })) (sym (links_mode geo old l k b holder)) ∙ d) ];
          }))
          | inr (inl at) ↦ inr (tables_more (Or new (At k b)) holder j a (inr at))
          | inr (inr table) ↦ inr (tables_listed (Or new (At k b)) holder j a (new_listed geo start n k b holder g.kept j a table.1))
        ])
