-- A pointer is put where it belongs: what its cells leave, and what the record uses then. One recursion over the tables.
use Rattle.std.proofs.Common.{◌≡◌, ◌<◌, ◌≤◌, ℕ, Bool, true, ◌&&◌, List, [], length, ◌⊎◌, inl, inr, refl, sym, ap, ◌∙◌, subst, arith, Some, None, IsTrue, IsFalse}
use Rattle.std.specs.Bool.{then_some}
use Rattle.std.specs.Option.{option_and_then}
use Rattle.std.proofs.lemmas.Bool.{cases_lt, cases_eq, cases_Bool, le-leb, leb-true, and_parts, both_ways}
use Rattle.std.proofs.lemmas.Option.{none-some, same_Some}
use Rattle.model.specs.Layout.{Geometry, IsGeometry, is_data_address}
use Rattle.model.specs.View.{View, Inode}
use Rattle.model.specs.Image.{IsBlock}
use Rattle.model.specs.Cells.{Update, SetBlock, SetBytes, updated, updated_all, put_at}
use Rattle.model.specs.Shape.{direct_positions, most_blocks, position_count, is_table, table_of, place_in_table, first_block, field_at, with_field, pointer_in}
use Rattle.model.specs.Uses.{is_sound, blocks_of, has_position, record_use}
use Rattle.model.proofs.Alike.{same_then}
use Rattle.model.proofs.Places.{put_here, put_there}
use Rattle.model.proofs.Shape.{table_cases, by_way, shallow, earlier, new_first, own_first, some_table, comes_with, table_is_table, table_inside, place_inside, one_position, reach_parts, reach_from, reach_table, reach_above, IsAbove, Next, Further}
use Rattle.model.proofs.Steps.{read, use_in_table}
use Rattle.model.proofs.Uses.{OfRecord, OfTable, use_of, use_has, below_has, above_more, above_table, same_some}
use Rattle.model.proofs.Fields.{new_field, other_field, as_before, same_length}
use Rattle.machine.specs.Room.{IsFreeBlock}
use Rattle.machine.specs.Cells.{with_pointer, LeavesMark, Points, InRecord, InTable, InNewTable}
use Rattle.machine.specs.Whole.{HasWholeBlocks}
use Rattle.machine.proofs.WholeBlocks.{put_whole}
use Rattle.machine.proofs.PointerTables.{small_address, pointer_here, pointer_there, pointer_whole}

-- ---- two records in two views
-- two sound records that have a position use it alike if they use its table alike, and if their pointer there is the same
pub agree_records : (geo : Geometry) (v w : View) (x y : Inode) → IsTrue (is_sound geo x) → IsTrue (is_sound geo y) → (k : ℕ) → IsTrue (has_position geo x k) → IsTrue (has_position geo y k)
    → (table_of geo k ≡ None → field_at geo x k ≡ field_at geo y k)
    → ((m : ℕ) → table_of geo k ≡ Some m → record_use geo v x m ≡ record_use geo w y m)
    → ((m t : ℕ) → table_of geo k ≡ Some m → record_use geo v x m ≡ Some t → IsTrue (is_data_address geo t) → pointer_in (v.bytes t) (place_in_table geo k) ≡ pointer_in (w.bytes t) (place_in_table geo k))
    → record_use geo v x k ≡ record_use geo w y k
agree_records geo v w x y sx sy k hx hy fields tables pointers = elim (table_cases geo k) [
  | inl none ↦ use_of geo v x k (field_at geo x k) sx (OfRecord none hx refl) ∙ ap Some (fields none) ∙ sym (use_of geo w y k (field_at geo y k) sy (OfRecord none hy refl))
  | inr one ↦
      use_in_table geo v x k one.0 one.1
      ∙ same_some (read geo v x k) (read geo w y k) (record_use geo v x one.0) (λ t uses.
      ap (λ b. then_some (b && is_data_address geo t) (pointer_in (v.bytes t) (place_in_table geo k))) (hx ∙ sym hy)
      ∙ same_then (has_position geo y k && is_data_address geo t) _ _ (λ h. pointers one.0 t one.1 uses (and_parts (has_position geo y k) (is_data_address geo t) h).1))
      ∙ ap (option_and_then (read geo w y k)) (tables one.0 one.1)
      ∙ sym (use_in_table geo w y k one.0 one.1)
]

-- the table next to a position on its way is that position, or has it on its own way
next_or_above : (geo : Geometry) (k m q : ℕ) → table_of geo k ≡ Some m → IsAbove geo k q → (q ≡ m) ⊎ IsAbove geo m q
next_or_above geo k m q one (Next h) = inl (same_Some q m (sym h ∙ one))
next_or_above geo k m q one (Further t h g) = inr (Next (ap (table_of geo) (same_Some m t (sym one ∙ h)) ∙ g))

none_above : (geo : Geometry) (k q : ℕ) → table_of geo k ≡ None → IsAbove geo k q → ⊥
none_above geo k q none (Next h) = none-some q (sym none ∙ h)
none_above geo k q none (Further t h g) = none-some t (sym none ∙ h)

-- the view with new bytes in one block, and with a new table there
abbrev pub wrote : View → ℕ → List ℕ → View
wrote w x bytes = updated w (SetBytes x bytes)

abbrev pub founded : View → ℕ → List ℕ → View
founded w x table = updated (updated w (SetBlock x true)) (SetBytes x table)

-- a mark stays where another one is put
pub still_marked : (marks : ℕ → Bool) (x c : ℕ) → IsTrue (marks c) → IsTrue (put_at marks x true c)
still_marked marks x c h = elim (cases_eq c x) [
  | inl e ↦ ap (put_at marks x true) e ∙ put_here marks x true
  | inr d ↦ put_there marks x c true d ∙ h
]

-- ---- the record
-- with another pointer it is else as it was
pub record IsLike (old pointed : Inode) : Type 0 where
  pub mode : pointed.mode ≡ old.mode
  pub links : pointed.links ≡ old.links
  pub size : pointed.size ≡ old.size
  pub direct : length pointed.direct ≡ length old.direct
  pub attributes : pointed.attributes ≡ old.attributes

module _ (geo : Geometry) (v : View) (old : Inode) where
  pub pointed_like : {k a : ℕ} {cells : List Update} {pointed : Inode} → Points geo v old k a cells pointed → IsLike old pointed
  pointed_like {k = k} {a = a} (InRecord none c p) = subst (IsLike old) (sym p) (record {
    mode = as_before geo old k a (λ x. x.mode) (λ d. refl) refl refl;
    links = as_before geo old k a (λ x. x.links) (λ d. refl) refl refl;
    size = as_before geo old k a (λ x. x.size) (λ d. refl) refl refl;
    direct = same_length geo old k a;
    attributes = as_before geo old k a (λ x. x.attributes) (λ d. refl) refl refl;
  })
  pointed_like (InTable m x one uses address c p) = subst (IsLike old) (sym p) (record { mode = refl; links = refl; size = refl; direct = refl; attributes = refl })
  pointed_like (InNewTable m x table more one none free apart whole first up c) = pointed_like up

  -- ---- the new tables
  -- the position of a table that comes new, and its block
  abbrev pub IsNew : {k a : ℕ} {cells : List Update} {pointed : Inode} → Points geo v old k a cells pointed → ℕ → ℕ → Type 0
  IsNew (InRecord none c p) q t = ⊥
  IsNew (InTable m x one uses address c p) q t = ⊥
  IsNew (InNewTable m x table more one none free apart whole first up c) q t = ((q ≡ m) × (t ≡ x)) ⊎ IsNew up q t

  -- each is a free block
  pub new_free : {k a : ℕ} {cells : List Update} {pointed : Inode} (p : Points geo v old k a cells pointed) (q t : ℕ) → IsNew p q t → IsFreeBlock geo v t
  new_free (InRecord none c p) q t n = absurd n
  new_free (InTable m x one uses address c p) q t n = absurd n
  new_free (InNewTable m x table more one none free apart whole first up c) q t (inl e) = subst (IsFreeBlock geo v) (sym e.1) free
  new_free (InNewTable m x table more one none free apart whole first up c) q t (inr n) = new_free up q t n

  -- each table on the way that the record does not have is new
  pub all_new : {k a : ℕ} {cells : List Update} {pointed : Inode} (p : Points geo v old k a cells pointed) (q : ℕ) → IsAbove geo k q → IsFalse (has_position geo old q) → (t : ℕ) × IsNew p q t
  all_new {k = k} (InRecord none c p) q above late = absurd (none_above geo k q none above)
  all_new {k = k} (InTable m x one uses address c p) q above late = absurd (both_ways (has_position geo old q) late (elim (next_or_above geo k m q one above) [
    | inl e ↦ subst (λ n. IsTrue (has_position geo old n)) (sym e) (use_has geo v old m x uses)
    | inr up ↦ reach_above geo (blocks_of old.size) m q up (use_has geo v old m x uses)
  ]))
  all_new {k = k} (InNewTable m x table more one none free apart whole first up c) q above late = elim (next_or_above geo k m q one above) [
    | inl e ↦ (x, inl (e, refl))
    | inr further ↦ let rest = all_new up q further late in (rest.0, inr rest.1)
  ]

  -- a block whose mark the cells leave is none of them
  pub new_apart : {k a : ℕ} {cells : List Update} {pointed : Inode} (p : Points geo v old k a cells pointed) (b : ℕ) → LeavesMark b cells → (q t : ℕ) → IsNew p q t → t ≡ b → ⊥
  new_apart (InRecord none c p) b leaves q t n e = n
  new_apart (InTable m x one uses address c p) b leaves q t n e = n
  new_apart (InNewTable m x table more one none free apart whole first up c) b leaves q t (inl n) e = (subst (LeavesMark b) c leaves).0 (sym n.1 ∙ e)
  new_apart (InNewTable m x table more one none free apart whole first up c) b leaves q t (inr n) e = new_apart up b (subst (LeavesMark b) c leaves).1 q t n e

  -- the cells leave the marks of blocks that are not free
  pub leaves_taken : {k a : ℕ} {cells : List Update} {pointed : Inode} → Points geo v old k a cells pointed → (b : ℕ) → (IsFreeBlock geo v b → ⊥) → LeavesMark b cells
  leaves_taken (InRecord none c p) b taken = subst (LeavesMark b) (sym c) tt
  leaves_taken (InTable m x one uses address c p) b taken = subst (LeavesMark b) (sym c) tt
  leaves_taken (InNewTable m x table more one none free apart whole first up c) b taken =
      subst (LeavesMark b) (sym c) ((λ e. taken (subst (IsFreeBlock geo v) e free)), leaves_taken up b taken)

  no_cells : {k a : ℕ} {cells : List Update} {pointed : Inode} → Points geo v old k a cells pointed → table_of geo k ≡ None → cells ≡ []
  no_cells (InRecord none c p) h = c
  no_cells (InTable m x one uses address c p) h = absurd (none-some m (sym h ∙ one))
  no_cells (InNewTable m x table more one none free apart whole first up c) h = absurd (none-some m (sym h ∙ one))

  -- the cells by which a table gets its place leave its mark
  leaves_own : {m x : ℕ} {more : List Update} {pointed : Inode} → Points geo v old m x more pointed → (k : ℕ) → table_of geo k ≡ Some m → LeavesMark x more
  leaves_own {x = x} (InRecord none c p) k below = subst (LeavesMark x) (sym c) tt
  leaves_own {x = x} (InTable t y one uses address c p) k below = subst (LeavesMark x) (sym c) tt
  leaves_own {m = m} {x = x} (InNewTable t y table more one none free apart whole first up c) k below =
      subst (LeavesMark x) (sym c) (apart, subst (LeavesMark x) (sym (no_cells up (shallow geo k m t below one))) tt)

  -- so no two are one block
  pub new_once : {k a : ℕ} {cells : List Update} {pointed : Inode} (p : Points geo v old k a cells pointed) (q m t : ℕ) → IsNew p q t → IsNew p m t → q ≡ m
  new_once (InRecord none c p) q m t f g = absurd f
  new_once (InTable n x one uses address c p) q m t f g = absurd f
  new_once (InNewTable n x table more one none free apart whole first up c) q m t (inl f) (inl g) = f.0 ∙ sym g.0
  new_once {k = k} (InNewTable n x table more one none free apart whole first up c) q m t (inl f) (inr g) = absurd (new_apart up x (leaves_own up k one) m t g f.1)
  new_once {k = k} (InNewTable n x table more one none free apart whole first up c) q m t (inr f) (inl g) = absurd (new_apart up x (leaves_own up k one) q t f g.1)
  new_once (InNewTable n x table more one none free apart whole first up c) q m t (inr f) (inr g) = new_once up q m t f g

  -- ---- the cells
  -- what they leave of a view
  pub record Leaves (cells : List Update) (w z : View) : Type 0 where
    pub inode : z.inode ≡ w.inode
    pub numbers : z.number_marked ≡ w.number_marked
    pub marks_kept : (c : ℕ) → IsTrue (w.block_marked c) → IsTrue (z.block_marked c)
    pub bytes : (c : ℕ) → LeavesMark c cells → ((m : ℕ) → IsTrue (is_table geo m) → record_use geo v old m ≡ Some c → ⊥) → z.bytes c ≡ w.bytes c

  -- each block marked since is a new table
  pub marks_came : {k a : ℕ} {cells : List Update} {pointed : Inode} (p : Points geo v old k a cells pointed) (w : View) (c : ℕ) → IsTrue ((updated_all w cells).block_marked c)
      → IsTrue (w.block_marked c) ⊎ ((q : ℕ) × IsNew p q c)
  marks_came (InRecord none e p) w c h = inl (subst (λ cs. IsTrue ((updated_all w cs).block_marked c)) e h)
  marks_came (InTable m x one uses address e p) w c h = inl (subst (λ cs. IsTrue ((updated_all w cs).block_marked c)) e h)
  marks_came (InNewTable m x table more one none free apart whole first up e) w c h = elim (marks_came up (founded w x table) c (subst (λ cs. IsTrue ((updated_all w cs).block_marked c)) e h)) [
    | inl was ↦ elim (cases_eq c x) [ inl is ↦ inr (m, inl (refl, is)) | inr differs ↦ inl (sym (put_there w.block_marked x c true differs) ∙ was) ]
    | inr new ↦ inr (new.0, inr new.1)
  ]

  pub leaves : {k a : ℕ} {cells : List Update} {pointed : Inode} → Points geo v old k a cells pointed → (w : View) → Leaves cells w (updated_all w cells)
  leaves (InRecord none c p) w =
      subst (λ cs. Leaves cs w (updated_all w cs)) (sym c) (record { inode = refl; numbers = refl; marks_kept = λ b h. h; bytes = λ b l none. refl })
  leaves {k = k} {a = a} (InTable m x one uses address c p) w =
      subst (λ cs. Leaves cs w (updated_all w cs)) (sym c) (record {
        inode = refl;
        numbers = refl;
        marks_kept = λ b h. h;
        bytes = λ b l none. put_there w.bytes x b (with_pointer (v.bytes x) (place_in_table geo k) a) (λ e. none m (le-leb (most_blocks geo) m (table_is_table geo k m one)) (uses ∙ ap Some (sym e)));
      })
  leaves (InNewTable m x table more one none free apart whole first up c) w =
      let rest = leaves up (founded w x table) in
      subst (λ cs. Leaves cs w (updated_all w cs)) (sym c) (record {
        inode = rest.inode;
        numbers = rest.numbers;
        marks_kept = λ b h. rest.marks_kept b (still_marked w.block_marked x b h);
        bytes = λ b l none. rest.bytes b l.1 none ∙ put_there w.bytes x b table (λ e. l.0 (sym e));
      })

  -- the new tables are marked
  pub new_marked : {k a : ℕ} {cells : List Update} {pointed : Inode} (p : Points geo v old k a cells pointed) (w : View) (q t : ℕ) → IsNew p q t → IsTrue ((updated_all w cells).block_marked t)
  new_marked (InRecord none c p) w q t n = absurd n
  new_marked (InTable m x one uses address c p) w q t n = absurd n
  new_marked (InNewTable m x table more one none free apart whole first up c) w q t (inl n) =
      subst (λ cs. IsTrue ((updated_all w cs).block_marked t)) (sym c) ((leaves up (founded w x table)).marks_kept t (ap (put_at w.block_marked x true) n.1 ∙ put_here w.block_marked x true))
  new_marked (InNewTable m x table more one none free apart whole first up c) w q t (inr n) =
      subst (λ cs. IsTrue ((updated_all w cs).block_marked t)) (sym c) (new_marked up (founded w x table) q t n)

  module _ (g : IsGeometry geo) where
    -- whole blocks stay whole
    pub leaves_whole : {k a : ℕ} {cells : List Update} {pointed : Inode} → Points geo v old k a cells pointed → k < position_count geo → IsTrue (is_data_address geo a) → HasWholeBlocks geo v
        → (w : View) → HasWholeBlocks geo w → HasWholeBlocks geo (updated_all w cells)
    leaves_whole (InRecord none c p) low data_block before w h = subst (λ cs. HasWholeBlocks geo (updated_all w cs)) (sym c) h
    leaves_whole {k = k} {a = a} (InTable m x one uses address c p) low data_block before w h =
        subst (λ cs. HasWholeBlocks geo (updated_all w cs)) (sym c)
        (put_whole geo w x (with_pointer (v.bytes x) (place_in_table geo k) a) h (pointer_whole (v.bytes x) (before x address) (place_in_table geo k) a (place_inside geo k m low one) (small_address geo g a data_block)))
    leaves_whole {k = k} (InNewTable m x table more one none free apart whole first up c) low data_block before w h =
        subst (λ cs. HasWholeBlocks geo (updated_all w cs)) (sym c)
        (leaves_whole up (table_inside geo k m low one) free.address before (founded w x table) (put_whole geo (updated w (SetBlock x true)) x table h whole))

    -- ---- the uses of the record as it will be
    module _ (r : Inode) where
      -- What is known of the record before and after: it has at least the positions that it had, and its tables are whole, no block twice, and none that is free.
      pub record Before : Type 0 where
        pub sound : (l : ℕ) → IsTrue (has_position geo old l) → IsTrue (is_sound geo old)
        pub still_sound : IsTrue (is_sound geo r)
        pub keeps : (l : ℕ) → IsTrue (has_position geo old l) → IsTrue (has_position geo r l)
        pub once : (l m t : ℕ) → IsTrue (is_table geo l) → IsTrue (is_table geo m) → record_use geo v old l ≡ Some t → record_use geo v old m ≡ Some t → IsTrue (is_data_address geo t) → l ≡ m
        pub unused : (t : ℕ) → IsFreeBlock geo v t → (m : ℕ) → IsTrue (is_table geo m) → record_use geo v old m ≡ Some t → ⊥
        pub whole : (m t : ℕ) → IsTrue (is_table geo m) → record_use geo v old m ≡ Some t → IsTrue (is_data_address geo t) → IsBlock (v.bytes t)
        pub twelve : length old.direct ≡ direct_positions

      -- the tables of the record hold in another view what they held
      abbrev pub HoldsTables : View → Type 0
      HoldsTables w = (m t : ℕ) → IsTrue (is_table geo m) → record_use geo v old m ≡ Some t → IsTrue (is_data_address geo t) → v.bytes t ≡ w.bytes t

      -- position k has block a, and what does not have it on its way is used as before
      pub record Pointed (k a : ℕ) (z : View) : Type 0 where
        pub uses : record_use geo z r k ≡ Some a
        pub others : (l : ℕ) → IsTrue (has_position geo old l) → (l ≡ k → ⊥) → (IsAbove geo l k → ⊥) → record_use geo v old l ≡ record_use geo z r l

      inside : (x : Inode) (l : ℕ) → IsTrue (has_position geo x l) → l < position_count geo
      inside x l h = (reach_parts geo (blocks_of x.size) l h).0

      others_stay : (b : Before) (k : ℕ) (z : View)
          → ((l : ℕ) → l < position_count geo → table_of geo l ≡ None → (l ≡ k → ⊥) → field_at geo old l ≡ field_at geo r l)
          → ((l m t : ℕ) → l < position_count geo → (l ≡ k → ⊥) → table_of geo l ≡ Some m → record_use geo v old m ≡ Some t → IsTrue (is_data_address geo t)
          → pointer_in (v.bytes t) (place_in_table geo l) ≡ pointer_in (z.bytes t) (place_in_table geo l))
          → (l : ℕ) → IsTrue (has_position geo old l) → (l ≡ k → ⊥) → (IsAbove geo l k → ⊥) → record_use geo v old l ≡ record_use geo z r l
      others_stay b k z fields pointers =
          by_way geo (λ l. IsTrue (has_position geo old l) → (l ≡ k → ⊥) → (IsAbove geo l k → ⊥) → record_use geo v old l ≡ record_use geo z r l)
          (λ l tables has differs apart.
          agree_records geo v z old r (b.sound l has) b.still_sound l has (b.keeps l has)
          (λ none. fields l (inside old l has) none differs)
          (λ m h. tables m h (reach_table geo (blocks_of old.size) l m h has) (λ e. apart (Next (h ∙ ap Some e))) (λ above. apart (above_more geo l m k h above)))
          (λ m t h uses d. pointers l m t (inside old l has) differs h uses d))

      not_itself : (k m : ℕ) → table_of geo k ≡ Some m → m ≡ k → ⊥
      not_itself k m h e = none-some m (sym (shallow geo k m m h (ap (table_of geo) e ∙ h)) ∙ ap (table_of geo) e ∙ h)

      not_above : (k m : ℕ) → table_of geo k ≡ Some m → IsAbove geo m k → ⊥
      not_above k m h (Next g) = none-some m (sym (shallow geo k m k h g) ∙ h)
      not_above k m h (Further t g e) = none-some k (sym (shallow geo k m t h g) ∙ e)

      elsewhere : (w : View) (x : ℕ) (bytes : List ℕ) (t : ℕ) → (t ≡ x → ⊥) → w.bytes t ≡ (wrote w x bytes).bytes t
      elsewhere w x bytes t differs = sym (put_there w.bytes x t bytes differs)

      table_at : (k m : ℕ) → table_of geo k ≡ Some m → IsTrue (is_table geo m)
      table_at k m h = le-leb (most_blocks geo) m (table_is_table geo k m h)

      in_record : (k a : ℕ) (pointed : Inode) → table_of geo k ≡ None → pointed ≡ with_field geo old k a → Before → ((l : ℕ) → field_at geo r l ≡ field_at geo pointed l)
          → IsTrue (has_position geo r k) → (w : View) → HoldsTables w → Pointed k a w
      in_record k a pointed none p b fields has w holds =
          let low = inside r k has in
          let same = (λ (l : ℕ). fields l ∙ ap (λ x. field_at geo x l) p) in
          record {
            uses = use_of geo w r k a b.still_sound (OfRecord none has (sym (same k ∙ new_field geo old k a none b.twelve)));
            others = others_stay b k w (λ l within there differs. sym (other_field geo old k a l low within none there differs) ∙ sym (same l))
                (λ l m t within differs h uses d. ap (λ bytes. pointer_in bytes (place_in_table geo l)) (holds m t (table_at l m h) uses d));
          }

      module _ (k a m x : ℕ) (one : table_of geo k ≡ Some m) (uses : record_use geo v old m ≡ Some x) (d : IsTrue (is_data_address geo x)) (data_block : IsTrue (is_data_address geo a)) (b : Before)
          (fields : (l : ℕ) → field_at geo r l ≡ field_at geo old l) (has : IsTrue (has_position geo r k)) (w : View) (holds : HoldsTables w) where
        abbrev place : ℕ
        place = place_in_table geo k

        abbrev bytes : List ℕ
        bytes = with_pointer (v.bytes x) place a

        abbrev z : View
        z = wrote w x bytes

        low : place < 256
        low = place_inside geo k m (inside r k has) one

        block : IsBlock (v.bytes x)
        block = b.whole m x (table_at k m one) uses d

        small : a < 4294967296
        small = small_address geo g a data_block

        others : (l : ℕ) → IsTrue (has_position geo old l) → (l ≡ k → ⊥) → (IsAbove geo l k → ⊥) → record_use geo v old l ≡ record_use geo z r l
        others = others_stay b k z (λ l within there differs. sym (fields l)) (λ l q t within differs h there e. elim (cases_eq t x) [
          | inl same ↦
              let table : q ≡ m = b.once q m x (table_at l q h) (table_at k m one) (there ∙ ap Some same) uses d in
              ap (λ y. pointer_in (v.bytes y) (place_in_table geo l)) same
              ∙ sym (pointer_there (v.bytes x) block place a low small (place_in_table geo l) (λ at. differs (one_position geo l k m (h ∙ ap Some table) one at)))
              ∙ sym (ap (λ block. pointer_in block (place_in_table geo l)) (ap z.bytes same ∙ put_here w.bytes x bytes))
          | inr apart ↦ ap (λ block. pointer_in block (place_in_table geo l)) (holds q t (table_at l q h) there e ∙ elsewhere w x bytes t apart)
        ])

        table : record_use geo z r m ≡ Some x
        table = sym (others m (use_has geo v old m x uses) (not_itself k m one) (not_above k m one)) ∙ uses

        in_table : Pointed k a z
        in_table = record {
          uses = use_of geo z r k a b.still_sound (OfTable m x one has table d (sym (ap (λ block. pointer_in block place) (put_here w.bytes x bytes) ∙ pointer_here (v.bytes x) block place a low small)));
          others = others;
        }

      in_new : (k a m x : ℕ) (table : List ℕ) → table_of geo k ≡ Some m → IsFalse (has_position geo old m) → IsTrue (is_data_address geo x) → pointer_in table 0 ≡ a → Before
          → IsTrue (has_position geo r k) → first_block geo k ≤ blocks_of old.size → (z : View) → z.bytes x ≡ table → Pointed m x z → Pointed k a z
      in_new k a m x table one none address first b has next z holds above = record {
        uses = use_of geo z r k a b.still_sound (OfTable m x one has above.uses address (sym (ap (λ block. pointer_in block (place_in_table geo k)) holds ∙ ap (pointer_in table) start ∙ first)));
        others = λ l there differs free.
            above.others l there (λ e. not_there (subst (λ q. IsTrue (has_position geo old q)) e there)) (λ up. not_there (reach_above geo (blocks_of old.size) l m up there));
      }
        where
          not_there : IsTrue (has_position geo old m) → ⊥
          not_there h = both_ways (has_position geo old m) none h

          late : blocks_of old.size ≤ first_block geo m
          late = elim (cases_lt (first_block geo m) (blocks_of old.size)) [
            | inl few ↦ absurd (not_there (reach_from geo (blocks_of old.size) m (table_inside geo k m (inside r k has) one) few))
            | inr many ↦ many
          ]

          start : place_in_table geo k ≡ 0
          start = new_first geo k m one (let sooner = earlier geo k m one in let so_late = late in omega arith)

      -- the tables of the record hold what they held where a new one is founded
      holds_founded : Before → (x : ℕ) (table : List ℕ) → IsFreeBlock geo v x → (w : View) → HoldsTables w → HoldsTables (founded w x table)
      holds_founded b x table free w holds q t is there d = holds q t is there d ∙ elsewhere (updated w (SetBlock x true)) x table t (λ e. b.unused x free q is (there ∙ ap Some e))

      -- where position k comes next, or stands already
      pub pointed_at : {k a : ℕ} {cells : List Update} {pointed : Inode} → Points geo v old k a cells pointed → IsTrue (is_data_address geo a) → Before → ((l : ℕ) → field_at geo r l ≡ field_at geo pointed l)
          → IsTrue (has_position geo r k) → first_block geo k ≤ blocks_of old.size → (w : View) → HoldsTables w → Pointed k a (updated_all w cells)
      pointed_at {k = k} {a = a} {pointed = pointed} (InRecord none c p) data_block b fields has next w holds =
          subst (λ cs. Pointed k a (updated_all w cs)) (sym c) (in_record k a pointed none p b fields has w holds)
      pointed_at {k = k} {a = a} (InTable m x one uses address c p) data_block b fields has next w holds =
          subst (λ cs. Pointed k a (updated_all w cs)) (sym c) (in_table k a m x one uses address data_block b (λ l. fields l ∙ ap (λ q. field_at geo q l) p) has w holds)
      pointed_at {k = k} {a = a} (InNewTable m x table more one none free apart whole first up c) data_block b fields has next w holds =
          let rest = leaves up (founded w x table) in
          subst (λ cs. Pointed k a (updated_all w cs)) (sym c)
          (in_new k a m x table one none free.address first b has next (updated_all (founded w x table) more)
          (rest.bytes x (leaves_own up k one) (λ q h e. b.unused x free q h e) ∙ put_here w.bytes x table)
          (pointed_at up free.address b fields (reach_table geo (blocks_of r.size) k m one has) (let sooner = earlier geo k m one in omega arith) (founded w x table) (holds_founded b x table free w holds)))

      -- and the new tables are used at their positions
      pub new_uses : {k a : ℕ} {cells : List Update} {pointed : Inode} (p : Points geo v old k a cells pointed) → Before → ((l : ℕ) → field_at geo r l ≡ field_at geo pointed l)
          → IsTrue (has_position geo r k) → first_block geo k ≤ blocks_of old.size → (w : View) → HoldsTables w → (q t : ℕ) → IsNew p q t → record_use geo (updated_all w cells) r q ≡ Some t
      new_uses (InRecord none c p) b fields has next w holds q t n = absurd n
      new_uses (InTable m x one uses address c p) b fields has next w holds q t n = absurd n
      new_uses {k = k} (InNewTable m x table more one none free apart whole first up c) b fields has next w holds q t (inl n) =
          subst (λ cs. record_use geo (updated_all w cs) r q ≡ Some t) (sym c)
          (ap (record_use geo (updated_all (founded w x table) more) r) n.0
          ∙ (pointed_at up free.address b fields (reach_table geo (blocks_of r.size) k m one has) (let sooner = earlier geo k m one in omega arith) (founded w x table) (holds_founded b x table free w holds)).uses
          ∙ ap Some (sym n.1))
      new_uses {k = k} (InNewTable m x table more one none free apart whole first up c) b fields has next w holds q t (inr n) =
          subst (λ cs. record_use geo (updated_all w cs) r q ≡ Some t) (sym c)
          (new_uses up b fields (reach_table geo (blocks_of r.size) k m one has) (let sooner = earlier geo k m one in omega arith) (founded w x table) (holds_founded b x table free w holds) q t n)

      -- ---- the whole change: a block at position k, which is in use or comes next
      pub record Comes (k a : ℕ) {cells : List Update} {pointed : Inode} (p : Points geo v old k a cells pointed) : Type 0 where
        pub before : Before
        pub fields : (l : ℕ) → field_at geo r l ≡ field_at geo pointed l
        pub address : IsTrue (is_data_address geo a)
        pub inside : k < blocks_of r.size
        pub few : blocks_of r.size ≤ most_blocks geo
        pub came : (q : ℕ) → q < blocks_of r.size → (q < blocks_of old.size) ⊎ (q ≡ k)

      module _ (k a : ℕ) {cells : List Update} {pointed : Inode} (p : Points geo v old k a cells pointed) (c : Comes k a p) (w : View) (holds : HoldsTables w) where
        abbrev after : View
        after = updated_all w cells

        pub below_tables : k < most_blocks geo
        below_tables = omega (arith, c.inside, c.few)

        pub position_inside : k < position_count geo
        position_inside = omega (arith, below_tables, some_table geo)

        has_k : IsTrue (has_position geo r k)
        has_k = below_has geo r k c.inside c.few

        next : first_block geo k ≤ blocks_of old.size
        next = elim (cases_lt (blocks_of old.size) k) [
          | inr h ↦ let own = own_first geo k below_tables in omega (arith, own, h)
          | inl h ↦ absurd (elim (c.came (blocks_of old.size) (omega (arith, h, c.inside))) [ inl was ↦ omega (arith, was) | inr e ↦ omega (arith, e, h) ])
        ]

        not_on_way : (q : ℕ) → IsAbove geo q k → ⊥
        not_on_way q above = let high = leb-true (most_blocks geo) k (above_table geo q k above) in omega (arith, high, below_tables)

        done : Pointed k a after
        done = pointed_at p c.address c.before c.fields has_k next w holds

        pub placed_use : record_use geo after r k ≡ Some a
        placed_use = done.uses

        pub kept_use : (q x : ℕ) → (q ≡ k → ⊥) → record_use geo v old q ≡ Some x → record_use geo after r q ≡ Some x
        kept_use q x differs e = sym (done.others q (use_has geo v old q x e) differs (not_on_way q)) ∙ e

        pub new_use : (q t : ℕ) → IsNew p q t → record_use geo after r q ≡ Some t
        new_use q t n = new_uses p c.before c.fields has_k next w holds q t n

        -- a position that comes is k or a new table
        pub comes : (q : ℕ) → IsTrue (has_position geo r q) → IsFalse (has_position geo old q) → (q ≡ k) ⊎ IsAbove geo k q
        comes q has late =
            let at = reach_parts geo (blocks_of r.size) q has in
            comes_with geo k q below_tables (elim (c.came (first_block geo q) at.1) [
              | inl was ↦ absurd (both_ways (has_position geo old q) late (reach_from geo (blocks_of old.size) q at.0 was))
              | inr e ↦ e
            ])

        -- a use is an old one, that of the block, or that of a new table
        pub came_use : (q x : ℕ) → record_use geo after r q ≡ Some x → ((q ≡ k → ⊥) × (record_use geo v old q ≡ Some x)) ⊎ (((q ≡ k) × (x ≡ a)) ⊎ (IsAbove geo k q × IsNew p q x))
        came_use q x u = elim (cases_eq q k) [
          | inl e ↦ inr (inl (e, same_Some x a (sym (ap (record_use geo after r) (sym e) ∙ u) ∙ done.uses)))
          | inr differs ↦ elim (cases_Bool (has_position geo old q)) [
            | inl was ↦ inl (differs, done.others q was differs (not_on_way q) ∙ u)
            | inr late ↦ elim (comes q (use_has geo after r q x u) late) [
              | inl e ↦ absurd (differs e)
              | inr above ↦
                  let n = all_new p q above late in
                  inr (inr (above, subst (IsNew p q) (same_Some n.0 x (sym (new_use q n.0 n.1) ∙ u)) n.1))
            ]
          ]
        ]

        -- the new uses are once each, where no new table takes the block
        pub came_once : LeavesMark a cells → (q m x : ℕ) → ((q ≡ k) × (x ≡ a)) ⊎ (IsAbove geo k q × IsNew p q x) → ((m ≡ k) × (x ≡ a)) ⊎ (IsAbove geo k m × IsNew p m x) → q ≡ m
        came_once apart q m x (inl f) (inl h) = f.0 ∙ sym h.0
        came_once apart q m x (inl f) (inr h) = absurd (new_apart p a apart m x h.1 f.1)
        came_once apart q m x (inr f) (inl h) = absurd (new_apart p a apart q x f.1 h.1)
        came_once apart q m x (inr f) (inr h) = new_once p q m x f.1 h.1
