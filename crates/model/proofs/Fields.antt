-- Other pointers in a record, and other pointers in a table: what they leave of the uses of all inodes.
use Rattle.std.proofs.Common.{◌≡◌, ◌<◌, ◌≤◌, ◌+◌, ℕ, Bool, true, false, cond, eqb, ltb, List, length, inl, inr, refl, sym, ap, ap₂, ◌∙◌, subst, arith, Some, None, IsTrue, IsFalse, get_or, get_or-set_same, get_or-set_other, slice_set}
use Rattle.std.proofs.lemmas.Bool.{cases_lt, cases_eq, lt-ltb, le-ltb, ltb-true, eq-eqb, ne_eqb, and_parts, false_from_ne_true}
use Rattle.std.proofs.lemmas.Option.{none-some}
use Rattle.std.proofs.lemmas.List.{length-set}
use Rattle.model.specs.Layout.{Geometry, is_data_address}
use Rattle.model.specs.View.{View, Inode, Fits}
use Rattle.model.specs.Cells.{SetBytes, updated}
use Rattle.model.specs.Shape.{direct_positions, most_blocks, position_count, table_of, place_in_table, first_block, top, field_at, with_field, pointer_in}
use Rattle.model.specs.Uses.{blocks_of, has_position, is_sound, record_use, use_at, IsUse, IsClaim}
use Rattle.model.proofs.Shape.{Direct, Middle, Deep, First, Double, Second, standing, many_blocks, single_positions, top_stands, top_inside, place_inside}
use Rattle.model.proofs.Uses.{use_parts, use_from, same_field, OfTable, use_number, bytes_leave_uses, table_bytes_leave_uses}

-- ---- another pointer in the record
-- records with the same pointers have the same at each position
pub fields_agree : (geo : Geometry) (x y : Inode) → x.direct ≡ y.direct → x.indirect ≡ y.indirect → x.double ≡ y.double → (k : ℕ) → field_at geo x k ≡ field_at geo y k
fields_agree geo x y direct indirect double k =
    ap (λ (d : List ℕ). cond (ltb k direct_positions) (get_or d k 0) (cond (eqb k (most_blocks geo)) x.indirect x.double)) direct
    ∙ ap₂ (λ (i d : ℕ). cond (ltb k direct_positions) (get_or y.direct k 0) (cond (eqb k (most_blocks geo)) i d)) indirect double

-- and so they have with the same other one
pub fields_with : (geo : Geometry) (x y : Inode) (k a : ℕ) → x.direct ≡ y.direct → x.indirect ≡ y.indirect → x.double ≡ y.double → (l : ℕ) → field_at geo (with_field geo x k a) l ≡ field_at geo (with_field geo y k a) l
fields_with geo x y k a direct indirect double = same (ltb k direct_positions) (eqb k (most_blocks geo))
  where
    chosen : Bool → Bool → Inode → Inode
    chosen b c r = cond b (record r { direct = slice_set r.direct k a }) (cond c (record r { indirect = a }) (record r { double = a }))

    same : (b c : Bool) (l : ℕ) → field_at geo (chosen b c x) l ≡ field_at geo (chosen b c y) l
    same true c = fields_agree geo (chosen true c x) (chosen true c y) (ap (λ (d : List ℕ). slice_set d k a) direct) indirect double
    same false true = fields_agree geo (chosen false true x) (chosen false true y) direct refl double
    same false false = fields_agree geo (chosen false false x) (chosen false false y) direct indirect refl

-- behind the direct pointers and the indirect one, the record holds the double indirect pointer
double_alone : (geo : Geometry) (q : ℕ) → 12 ≤ q → (q ≡ most_blocks geo → ⊥) → table_of geo q ≡ None → q ≡ most_blocks geo + 1
double_alone geo q many other h = elim (standing geo q) [
  | Direct low t f ↦ absurd (omega arith)
  | Middle from low t p f ↦ absurd (none-some (most_blocks geo) (sym h ∙ t))
  | Deep j p at small low t place f ↦ absurd (none-some (most_blocks geo + 2 + j) (sym h ∙ t))
  | First at t f ↦ absurd (other at)
  | Double at t f ↦ at
  | Second j at t p f ↦ absurd (none-some (most_blocks geo + 1) (sym h ∙ t))
]

module _ (geo : Geometry) (inode : Inode) (k a : ℕ) where
  abbrev pub pointed : Inode
  pointed = with_field geo inode k a

  abbrev pick : {A : Type 0} → (Inode → A) → A
  pick f = cond (ltb k 12) (f (record inode { direct = slice_set inode.direct k a })) (cond (eqb k (most_blocks geo)) (f (record inode { indirect = a })) (f (record inode { double = a })))

  picked : {A : Type 0} (f : Inode → A) → f pointed ≡ pick f
  picked f = go (ltb k 12) (eqb k (most_blocks geo))
    where
      go : (b c : Bool) → f (cond b (record inode { direct = slice_set inode.direct k a }) (cond c (record inode { indirect = a }) (record inode { double = a })))
          ≡ cond b (f (record inode { direct = slice_set inode.direct k a })) (cond c (f (record inode { indirect = a })) (f (record inode { double = a })))
      go true c = refl
      go false true = refl
      go false false = refl

  -- whatever does not look at the pointers is as before
  pub as_before : {A : Type 0} (f : Inode → A) → ((d : List ℕ) → f (record inode { direct = d }) ≡ f inode) → f (record inode { indirect = a }) ≡ f inode → f (record inode { double = a }) ≡ f inode → f pointed ≡ f inode
  as_before f d i e = picked f ∙ go (ltb k 12) (eqb k (most_blocks geo))
    where
      go : (b c : Bool) → cond b (f (record inode { direct = slice_set inode.direct k a })) (cond c (f (record inode { indirect = a })) (f (record inode { double = a }))) ≡ f inode
      go true c = d (slice_set inode.direct k a)
      go false true = i
      go false false = e

  pub same_size : pointed.size ≡ inode.size
  same_size = as_before (λ x. x.size) (λ d. refl) refl refl

  pub same_length : length pointed.direct ≡ length inode.direct
  same_length = picked (λ x. length x.direct) ∙ go (ltb k 12) (eqb k (most_blocks geo))
    where
      go : (b c : Bool) → cond b (length (slice_set inode.direct k a)) (cond c (length inode.direct) (length inode.direct)) ≡ length inode.direct
      go true c = length-set inode.direct k a
      go false true = refl
      go false false = refl

  pub same_soundness : is_sound geo pointed ≡ is_sound geo inode
  same_soundness = as_before (is_sound geo) (λ d. refl) refl refl

  pub same_positions : (l : ℕ) → has_position geo pointed l ≡ has_position geo inode l
  same_positions l = as_before (λ x. has_position geo x l) (λ d. refl) refl refl

  -- it fits the version as before
  pub still_fits : k < position_count geo → table_of geo k ≡ None → Fits geo.version inode → Fits geo.version pointed
  still_fits inside none fits one = picked (λ x. x.double) ∙ elim (cases_lt k 12) [
    | inl low ↦ rw (lt-ltb k 12 low) (fits one)
    | inr high ↦ elim (cases_eq k (most_blocks geo)) [
      | inl e ↦ rw (le-ltb k 12 high, eq-eqb k (most_blocks geo) e) (fits one)
      | inr differs ↦ absurd (omega (arith, inside, single_positions geo one, double_alone geo k high differs none))
    ]
  ]

  pub new_field : table_of geo k ≡ None → length inode.direct ≡ 12 → field_at geo pointed k ≡ a
  new_field none twelve = let num = many_blocks geo in picked (λ x. field_at geo x k) ∙ elim (cases_lt k 12) [
    | inl low ↦ let inside : k < length inode.direct = omega arith in rw (lt-ltb k 12 low, get_or-set_same) refl
    | inr high ↦ elim (cases_eq k (most_blocks geo)) [
      | inl e ↦ rw (le-ltb k 12 high, eq-eqb k (most_blocks geo) e) refl
      | inr differs ↦ rw (le-ltb k 12 high, ne_eqb k (most_blocks geo) differs) refl
    ]
  ]

  pub other_field : (l : ℕ) → k < position_count geo → l < position_count geo → table_of geo k ≡ None → table_of geo l ≡ None → (l ≡ k → ⊥) → field_at geo pointed l ≡ field_at geo inode l
  other_field l inside within none here differs = let num = many_blocks geo in picked (λ x. field_at geo x l) ∙ elim (cases_lt k 12) [
    | inl low ↦ elim (cases_lt l 12) [
      | inl few ↦ rw (lt-ltb k 12 low, lt-ltb l 12 few) (get_or-set_other inode.direct k l a 0 differs)
      | inr many ↦ rw (lt-ltb k 12 low, le-ltb l 12 many) refl
    ]
    | inr high ↦ elim (cases_eq k (most_blocks geo)) [
      | inl e ↦
          let other : l ≡ most_blocks geo → ⊥ = λ h. differs (h ∙ sym e) in
          elim (cases_lt l 12) [
            | inl few ↦ rw (le-ltb k 12 high, eq-eqb k (most_blocks geo) e, lt-ltb l 12 few) refl
            | inr many ↦ rw (le-ltb k 12 high, eq-eqb k (most_blocks geo) e, le-ltb l 12 many, ne_eqb l (most_blocks geo) other) refl
          ]
      | inr last ↦ elim (cases_lt l 12) [
        | inl few ↦ rw (le-ltb k 12 high, ne_eqb k (most_blocks geo) last, lt-ltb l 12 few) refl
        | inr many ↦ elim (cases_eq l (most_blocks geo)) [
          | inl h ↦ rw (le-ltb k 12 high, ne_eqb k (most_blocks geo) last, le-ltb l 12 many, eq-eqb l (most_blocks geo) h) refl
          | inr h ↦ absurd (differs (double_alone geo l many h here ∙ sym (double_alone geo k high last none)))
        ]
      ]
    ]
  ]

-- with another pointer in the record, what does not have its position on the way is used as before, if the record has it
pub other_uses_of_record : (geo : Geometry) (view : View) (inode : Inode) (k a l : ℕ) → k < position_count geo → table_of geo k ≡ None → IsTrue (is_sound geo inode) → IsTrue (has_position geo inode l) → (top geo l ≡ k → ⊥)
    → record_use geo view (with_field geo inode k a) l ≡ record_use geo view inode l
other_uses_of_record geo view inode k a l inside none sound has apart =
    let low = ltb-true l (position_count geo) (and_parts (ltb l (position_count geo)) (ltb (first_block geo l) (blocks_of inode.size)) has).0 in
    same_field geo view (with_field geo inode k a) inode (same_soundness geo inode k a ∙ sound) sound l (same_positions geo inode k a l ∙ has) has
    (other_field geo inode k a (top geo l) inside (top_inside geo l low) none (top_stands geo l) apart)

-- ---- another pointer in a table, in the whole view
module _ (geo : Geometry) (view : View) (a : ℕ) (bytes : List ℕ) where
  -- new bytes of a block that is claimed as table m of inode i, and nowhere else, with the pointers of the positions that i has, change no use at all
  pub filling_leaves_uses : (i m : ℕ) → ((j l : ℕ) → IsClaim geo view j l a → (j ≡ i) × (l ≡ m))
      → ((k : ℕ) → table_of geo k ≡ Some m → IsTrue (has_position geo (view.inode i) k) → pointer_in (view.bytes a) (place_in_table geo k) ≡ pointer_in bytes (place_in_table geo k))
      → (j k : ℕ) → use_at geo view j k ≡ use_at geo (updated view (SetBytes a bytes)) j k
  filling_leaves_uses i m only pointers j k = elim (cases_eq j i) [
    | inl e ↦ subst (λ x. use_at geo view x k ≡ use_at geo (updated view (SetBytes a bytes)) x k) (sym e) (table_bytes_leave_uses geo view a bytes i m (λ l t c. (only i l c).1) pointers k)
    | inr differs ↦ bytes_leave_uses geo view a bytes j (λ l t c. differs (only j l c).0) k
  ]

  -- Where each use is a claim, a sound inode does not have a position whose pointer, in the table that it claims, is no data address.
  pub no_pointer_no_position : (i m p : ℕ) → ((k v : ℕ) → IsUse geo view i k v → IsTrue (is_data_address geo v)) → table_of geo p ≡ Some m → IsClaim geo view i m a
      → IsFalse (is_data_address geo (pointer_in (view.bytes a) (place_in_table geo p))) → IsFalse (has_position geo (view.inode i) p)
  no_pointer_no_position i m p claims inside claim zero = false_from_ne_true (has_position geo (view.inode i) p) (λ has.
      let table = use_parts geo view i m a claim.0 in
      let uses = use_from geo view i p (pointer_in (view.bytes a) (place_in_table geo p)) (record {
        sound = table.sound;
        pointer = OfTable m a inside has (use_number geo view i m a claim.0).1 claim.1 refl;
      }) in cc (sym zero ∙ claims p (pointer_in (view.bytes a) (place_in_table geo p)) uses))

  -- Where each use is a claim and no block has two, a pointer that is put where 0 stood, in a table that is claimed, changes no use at all: nobody has the position.
  pub filling_a_zero : ((j l v : ℕ) → IsUse geo view j l v → IsTrue (is_data_address geo v)) → ((j l i m b : ℕ) → IsClaim geo view j l b → IsClaim geo view i m b → (j ≡ i) × (l ≡ m)) → (i m : ℕ) → IsClaim geo view i m a
      → (q : ℕ) → pointer_in (view.bytes a) q ≡ 0 → ((p : ℕ) → p < 256 → (p ≡ q → ⊥) → pointer_in (view.bytes a) p ≡ pointer_in bytes p) → (j k : ℕ) → use_at geo view j k ≡ use_at geo (updated view (SetBytes a bytes)) j k
  filling_a_zero claims once i m claim q zero others =
      filling_leaves_uses i m (λ j l c. once j l i m a c claim) (λ k h has. elim (cases_eq (place_in_table geo k) q) [
        | inl e ↦
            let none = no_pointer_no_position i m k (claims i) h claim (ap (λ p. is_data_address geo (pointer_in (view.bytes a) p)) e ∙ ap (is_data_address geo) zero) in
            absurd (cc (sym none ∙ has))
        | inr differs ↦ others (place_in_table geo k) (place_inside geo k m (inside_of k has) h) differs
      ])
    where
      inside_of : (k : ℕ) → IsTrue (has_position geo (view.inode i) k) → k < position_count geo
      inside_of k has = ltb-true k (position_count geo) (and_parts (ltb k (position_count geo)) (ltb (first_block geo k) (blocks_of (view.inode i).size)) has).0
