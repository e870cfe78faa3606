-- A directory gets one more block of zeroes: nobody's blocks change before its record does.
use Rattle.std.proofs.Common.{◌≡◌, ◌<◌, ◌≤◌, ◌%◌, ◌/◌, ℕ, true, ◌&&◌, ◌||◌, eqb, ltb, leb, List, [], ◌∷◌, replicate, inl, inr, refl, sym, ap, ◌∙◌, subst, arith, Contains, IsTrue, IsFalse, eqb-true, ltb-true}
use Rattle.std.proofs.lemmas.Bool.{both_ways, and_parts, or_cases, le-leb}
use Rattle.model.specs.Layout.{Geometry, IsGeometry}
use Rattle.model.specs.View.{View, Inode}
use Rattle.model.specs.Image.{IsBlock}
use Rattle.model.specs.Cells.{SetBlock, SetBytes, updated, updated_all}
use Rattle.model.specs.Shape.{most_blocks, position_count, place_in_table, pointer_in}
use Rattle.model.specs.Uses.{blocks_of, is_directory, is_sound, has_position, IsClaim}
use Rattle.model.specs.Rules.{ObeysRules, UsesAreClaims}
use Rattle.model.proofs.Shape.{table_is_table, table_inside, place_inside, one_position}
use Rattle.model.proofs.SameShape.{SameShape}
use Rattle.model.proofs.Places.{put_there}
use Rattle.model.proofs.SameTree.{SameTree, kept}
use Rattle.ordering.specs.Cuts.{Record}
use Rattle.ordering.specs.Rewrites.{MayAppendSlot}
use Rattle.ordering.proofs.Tables.{append_shape, table_slot}
use Rattle.machine.specs.Cells.{with_pointer}
use Rattle.machine.specs.Whole.{HasWholeBlocks}
use Rattle.machine.proofs.Pointing.{still_marked}
use Rattle.machine.proofs.PointerTables.{pointer_there}
use Rattle.plans_data.specs.Append.{Holder, KeptInRecord, KeptInTable, KeptInNew, IsKeptIn, AreApart, new_blocks, cells_of}
use Rattle.plans_data.proofs.Holders.{first_of, later_of, is_none}
use Rattle.plans_data.proofs.Numbers.{address_small}
use Rattle.plans_naming.proofs.FilledBlocks.{fill_folder, fill_tree}
use Rattle.plans_naming.proofs.Folders.{SameFolder, folder_on, tree_on}

abbrev pub zeroes : List ℕ
zeroes = replicate 1024 0

-- the view before the record gets its new version
abbrev pub filled_view : View → ℕ → View
filled_view v b = updated (updated v (SetBlock b true)) (SetBytes b zeroes)

abbrev pub linked_view : Geometry → View → ℕ → ℕ → Holder → View
linked_view geo v k b holder = updated_all (filled_view v b) (cells_of geo k b holder)

-- a sound directory has a block
pub some_block : (geo : Geometry) (x : Inode) → IsTrue (is_sound geo x) → x.mode ≡ 2 → (1 ≤ blocks_of x.size) × (x.size % 1024 ≡ 0)
some_block geo x sound two =
    let kind = (and_parts (eqb x.mode 1 || is_directory x && ltb 0 x.size && eqb (x.size % 1024) 0) (leb (blocks_of x.size) (most_blocks geo)) sound).0 in
    elim (or_cases (eqb x.mode 1) (is_directory x && ltb 0 x.size && eqb (x.size % 1024) 0) kind) [
      | inl one ↦ absurd (omega (arith, eqb-true x.mode 1 one, two))
      | inr dir ↦
          let p = and_parts (is_directory x && ltb 0 x.size) (eqb (x.size % 1024) 0) dir in
          let q = and_parts (is_directory x) (ltb 0 x.size) p.0 in
          let some : 0 < x.size = ltb-true 0 x.size q.1 in
          (omega (arith, some), eqb-true (x.size % 1024) 0 p.1)
    ]

-- each directory is as it was, and so is each record
pub record AsBefore (geo : Geometry) (v w : View) : Type 0 where
  pub folder : (e : ℕ) → SameFolder geo v w e
  pub tree : SameTree geo v w
  pub inodes : (n : ℕ) → w.inode n ≡ v.inode n

-- and the blocks that were marked
record Stage (geo : Geometry) (v w : View) : Type 0 where
  before : AsBefore geo v w
  bytes : (c : ℕ) → IsTrue (v.block_marked c) → w.bytes c ≡ v.bytes c
  marked : (c : ℕ) → IsTrue (v.block_marked c) → IsTrue (w.block_marked c)

module _ (geo : Geometry) (v : View) (rules : ObeysRules geo v) where
  module _ (w : View) (s : Stage geo v w) where
    claim_was : (n j a : ℕ) → IsClaim geo w n j a → IsClaim geo v n j a
    claim_was n j a c = ((s.before.folder n).uses j ∙ c.0, c.1)

    stage_marks : (n j a : ℕ) → IsClaim geo w n j a → IsTrue (w.block_marked a)
    stage_marks n j a c = s.marked a (rules.rule3.marked n j a (claim_was n j a c))

    stage_claims : UsesAreClaims geo w
    stage_claims = record {
      claims = λ n j c h. rules.rule3.claims n j c ((s.before.folder n).uses j ∙ h);
      marked = stage_marks;
      once = λ n j m l c p q. rules.rule3.once n j m l c (claim_was n j c p) (claim_was m l c q);
    }

    -- a block that is marked and filled
    module _ (x : ℕ) (table : List ℕ) (unused : IsFalse (v.block_marked x)) (unmarked : IsFalse (w.block_marked x)) where
      abbrev founded : View
      founded = updated (updated w (SetBlock x true)) (SetBytes x table)

      founded_stage : Stage geo v founded
      founded_stage = record {
        before = record {
          folder = λ e. folder_on geo v w founded e (s.before.folder e) (fill_folder geo w stage_marks x table unmarked e);
          tree = tree_on geo v w founded s.before.tree (fill_tree geo w stage_marks x table unmarked);
          inodes = s.before.inodes;
        };
        bytes = λ c m. put_there w.bytes x c table (λ e. both_ways (v.block_marked x) unused (subst (λ y. IsTrue (v.block_marked y)) e m)) ∙ s.bytes c m;
        marked = λ c m. still_marked w.block_marked x c (s.marked c m);
      }

  module _ (geometry : IsGeometry geo) (blocks : HasWholeBlocks geo v) (d : ℕ) where
    -- a pointer that is put into a table
    module _ (k b m x : ℕ) (table over : List ℕ) (h : IsKeptIn geo v d k b (KeptInTable m x table over)) (low : k < position_count geo) (late : IsFalse (has_position geo (v.inode d) k)) (small : b < 4294967296)
        (w : View) (s : Stage geo v w) where
      abbrev place : ℕ
      place = place_in_table geo k

      abbrev table' : List ℕ
      table' = with_pointer table place b

      abbrev u : View
      u = updated w (SetBytes x table')

      claim : IsClaim geo w d m x
      claim = (sym ((s.before.folder d).uses m) ∙ (h.1).0, (h.1).1)

      whole : IsBlock table
      whole = subst IsBlock (sym h.2) (blocks x (h.1).1)

      before : w.bytes x ≡ table
      before = s.bytes x (rules.rule3.marked d m x h.1) ∙ sym h.2

      high : most_blocks geo ≤ m
      high = table_is_table geo k m h.0

      may : MayAppendSlot geo w (Record d ∷ []) d m x table'
      may = record {
        table = le-leb (most_blocks geo) m high;
        claims = claim;
        record_first = inl (first_of (Record d) []);
        others = λ j one has.
            ap (λ t. pointer_in t (place_in_table geo j)) before
            ∙ sym (pointer_there table whole place b (place_inside geo k m low h.0) small (place_in_table geo j) (λ at.
            both_ways (has_position geo (v.inode d) k) late
            (subst (λ l. IsTrue (has_position geo (v.inode d) l)) (one_position geo j k m one h.0 at) (ap (λ (y : Inode). has_position geo y j) (sym (s.before.inodes d)) ∙ has))));
      }

      shape : SameShape geo w u
      shape = append_shape geo w (Record d ∷ []) d m x table' may (stage_claims w s)

      alone : (j l : ℕ) → IsClaim geo w j l x → l ≡ m
      alone j l c = ((stage_claims w s).once j l d m x c claim).1

      folder : (e : ℕ) → SameFolder geo w u e
      folder e = record {
        reach = kept geo w u shape.tree e;
        directory = shape.directories e;
        uses = shape.uses e;
        slots = λ t. table_slot geo w m x table' may.table alone e t (shape.uses e (t / 16));
        bytes = λ j c below y. sym (put_there w.bytes x c table' (λ same. let at : j ≡ m = alone e j (subst (λ a. IsClaim geo w e j a) same y) in omega (arith, at, below, high)));
      }

      into_table : AsBefore geo v u
      into_table = record {
        folder = λ e. folder_on geo v w u e (s.before.folder e) (folder e);
        tree = tree_on geo v w u s.before.tree shape.tree;
        inodes = s.before.inodes;
      }

    linked_from : (k b : ℕ) (h : Holder) → IsKeptIn geo v d k b h → AreApart (b ∷ new_blocks h) → k < position_count geo → IsFalse (has_position geo (v.inode d) k) → b < 4294967296
        → (w : View) → Stage geo v w → ((c : ℕ) → Contains (new_blocks h) c → IsFalse (w.block_marked c)) → AsBefore geo v (updated_all w (cells_of geo k b h))
    linked_from k b KeptInRecord h apart low late small w s fresh = s.before
    linked_from k b (KeptInTable m x table over) h apart low late small w s fresh = into_table k b m x table over h low late small w s
    linked_from k b (KeptInNew m x table up) h apart low late small w s fresh =
        let free = (h.2).free in
        let unmarked = fresh x (first_of x (new_blocks up)) in
        linked_from m x up h.3 apart.1 (table_inside geo k m low h.0) h.1 (address_small geo geometry x free.address) (founded w s x table free.unmarked unmarked)
        (founded_stage w s x table free.unmarked unmarked)
        (λ c i. put_there w.block_marked x c true (is_none x c (new_blocks up) (apart.1).0 i) ∙ fresh c (later_of x (new_blocks up) c i))

    start : Stage geo v v
    start = record {
      before = record {
        folder = λ e. record { reach = λ r. r; directory = refl; uses = λ k. refl; slots = λ t. refl; bytes = λ k b low c. refl };
        tree = record {
          top = refl;
          directory = λ e t i r h. refl;
          sound = λ e t i r h. refl;
          good = λ e t i name r. (λ h. h, λ h. h);
          bad = λ e t r h. h;
          blocks = λ e t i c r h. (λ y. y, λ y. y);
        };
        inodes = λ n. refl;
      };
      bytes = λ c m. refl;
      marked = λ c m. m;
    }

    pub as_before : (k b : ℕ) (h : Holder) → IsKeptIn geo v d k b h → AreApart (b ∷ new_blocks h) → k < position_count geo → IsFalse (has_position geo (v.inode d) k) → b < 4294967296
        → IsFalse (v.block_marked b) → ((c : ℕ) → Contains (new_blocks h) c → IsFalse (v.block_marked c)) → AsBefore geo v (linked_view geo v k b h)
    as_before k b h points apart low late small unmarked fresh =
        linked_from k b h points apart low late small (filled_view v b) (founded_stage v start b zeroes unmarked unmarked)
        (λ c i. put_there v.block_marked b c true (is_none b c (new_blocks h) apart.0 i) ∙ fresh c i)
